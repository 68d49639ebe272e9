use Rattle.std.proofs.Common.{◌∙◌}
use Rattle.cases.proofs.Reading.{number_from_parse}
use Rattle.cases.proofs.runs.number.Goals as goal

pub returns : goal.returns
returns c = c.ok.ensures.value ∙ number_from_parse c.args.word.now c.parse.result c.parse.ensures.value.0
