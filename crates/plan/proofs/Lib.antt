-- Painting in list order is right; and what joins the code to that.
pub mod Plans
pub mod PlanUnder
pub mod Ranges
pub mod Unders
