pub mod UnderWay
pub mod UnderWayLaws
