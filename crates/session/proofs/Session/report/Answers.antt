-- Where the output list has its length, the report is written.
use Rattle.session.proofs.Reporting.{few_records, report_refused, nothing_written, room_is, report_accepted, report_written}
use Rattle.session.proofs.Session.report.Goals as goal

pub report_length-requires : goal.report_length-requires
report_length-requires c = search few_records

pub returns-then-out-report_length-clause-value : goal.returns-then-out-report_length-clause-value
returns-then-out-report_length-clause-value c = search report_refused

pub put_report-requires : goal.put_report-requires
put_report-requires c = (search few_records, search room_is)

pub returns-clause-value : goal.returns-clause-value
returns-clause-value c = search report_accepted

pub returns-clause-out_after : goal.returns-clause-out_after
returns-clause-out_after c = search report_written

pub returns-then-out-report_length-clause-out_after : goal.returns-then-out-report_length-clause-out_after
returns-then-out-report_length-clause-out_after c = search nothing_written
