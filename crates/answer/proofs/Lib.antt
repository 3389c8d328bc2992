-- The lines (OneLine), the pair card of a job (Parts, JobWords, Writable, PairCard), what is printed where a number decides (Printed), and
-- what is printed for a card (CardModels, CardAnswers, LongInput).
pub mod Parts
mod Writable
pub mod Printed
pub mod CardModels
pub mod CardAnswers
pub mod LongInput
