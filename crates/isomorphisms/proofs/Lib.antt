-- The pair that a map determines, a root of T1 modulo T2 by counting, and the proofs of what is promised.
mod PairOfMap
mod RootExists
pub mod Theorem
