use Rattle.wd_certificate.proofs.read.from_json.Goals as goal

pub returns-in-Ok-None-clause-refused : goal.returns-in-Ok-None-clause-refused
returns-in-Ok-None-clause-refused c =
    let done = rw c.in-Ok-None.field-0-is at c.in-Ok-None.ensures.ok in
    (done.0, done.1, λ version nodes. done.2 (nodes, version))
