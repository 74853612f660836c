mod Clauses
mod Going
mod Ending
