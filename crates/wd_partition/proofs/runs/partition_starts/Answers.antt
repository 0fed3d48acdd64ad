use Rattle.std.proofs.Common.{◌≡◌, ◌∙◌, ◌<◌, ℕ, ap, sym, arith, get_or, length}
use Rattle.std.proofs.lemmas.Grind.{common_steps}
use Rattle.std.proofs.lemmas.List.{map_push, take_more}
use Rattle.wd_partition.specs.Indexed.{by_partition}
use Rattle.wd_partition.specs.Runs.{starts_at}
use Rattle.wd_partition.proofs.runs.partition_starts.Goals as goal

pub loop-i-preserved : goal.loop-i-preserved
loop-i-preserved c =
    let list = c.args.indexed.now.positions.now in
    let i = c.loop-i.i in
    let f = λ (p : ℕ). starts_at (by_partition c.args.indexed.now) list p in
    let within : i < length list = omega arith in
    record {
      items = grind (arith, common_steps, take_more list i 0 within, map_push f);
      before = λ k e. (let at : k ≡ i = omega arith in c.next_start-start.ensures ∙ ap (λ j. f (get_or list j 0)) (sym at));
    }

pub returns : goal.returns
returns c = grind (arith, common_steps)
