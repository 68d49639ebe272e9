use Rattle.std.proofs.lemmas.Result.{err_from_is_err_and}
use Rattle.site.proofs.site.Site.load.Goals as goal

pub returns-in_err-site-clause-fault : goal.returns-in_err-site-clause-fault
returns-in_err-site-clause-fault c =
    let p = err_from_is_err_and c.from_residual.result c.from_residual.ensures.1 in
    rw (p.1, p.2) c.in_err-site.ensures.fault
