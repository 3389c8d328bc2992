-- The laws on which the proof of `minus` rests.
mod DiagonalScan
