pub mod ExampleParts
