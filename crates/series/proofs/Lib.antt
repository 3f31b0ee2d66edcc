pub mod InSeries
