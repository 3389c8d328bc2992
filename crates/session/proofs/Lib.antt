-- What is proved of sessions: what one counts as (CountsAs), answers (Answer), the calls (Calls) and reports (Reporting).
pub mod CountsAs
pub mod Answer
pub mod Calls
mod Reporting
