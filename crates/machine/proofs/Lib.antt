pub mod Numbers
pub mod UnderWay
