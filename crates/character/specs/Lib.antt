-- What the contracts on powers of the first numbers cite.
pub mod Four
pub mod Table
