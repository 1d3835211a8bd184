use Rattle.uv_script.proofs.SomeReading.{some_reading}
use Rattle.uv_script.proofs.OneReading.{one_script, no_bad_line, one_bad_line}
use Rattle.uv_script.proofs.parse.one_reading.Goals as goal

pub returns-clause-script : goal.returns-clause-script
returns-clause-script c = one_script

pub returns-clause-apart : goal.returns-clause-apart
returns-clause-apart c = no_bad_line

pub returns-clause-bad_line : goal.returns-clause-bad_line
returns-clause-bad_line c = one_bad_line

pub returns-clause-some : goal.returns-clause-some
returns-clause-some c = some_reading
