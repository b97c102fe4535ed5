-- Laws of a repair with words beside it.
mod RepairReturns
