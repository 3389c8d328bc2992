-- The length of the report of what the session counts as.
use Rattle.session.proofs.Reporting.{few_records, report_long}
use Rattle.session.proofs.Session.report_length.Goals as goal

pub report_length-requires : goal.report_length-requires
report_length-requires c = search few_records

pub returns : goal.returns
returns c = search report_long
