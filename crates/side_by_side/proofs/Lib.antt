pub mod InParallel
