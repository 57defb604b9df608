pub mod PlanUnmade
pub mod GoingBack
pub mod Bridged
pub mod EndedRuns
pub mod FirstSeat
