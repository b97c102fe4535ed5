-- Laws of what many lookups say.
mod ManyReturns
