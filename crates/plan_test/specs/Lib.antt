-- A lent part of cells beside its plan.
pub mod Part
