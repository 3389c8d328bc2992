-- Sessions as C has them: the images of the first elements of an array (Mapped), the directions of
-- records (Directions), what a value counts as (Counting), records in its array (Placed), and the
-- calls (Calls).
pub mod Mapped
mod Directions
pub mod Counting
mod Placed
pub mod Calls
