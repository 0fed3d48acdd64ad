use Rattle.std.proofs.Common.{arith, ◌≡◌, ◌<◌, ◌++◌, ℕ, List, [], length, take, Option, Some, None, IfSome, ap, ◌∙◌}
use Rattle.std.proofs.lemmas.List.{length-take, take_all}
use Rattle.std.specs.Option.{option_map}
use Rattle.wd_command.proofs.files.read_whole.Goals as goal

-- what was read below the limit is all that there was
whole : (xs bytes : List ℕ) (limit : ℕ) → bytes ≡ take limit xs → length bytes < limit → bytes ≡ xs
whole xs bytes limit read short = read ∙ take_all limit xs (omega (arith, length-take limit xs, ap length read))

whole_if_known : (before after : Option (List ℕ)) (start bytes : List ℕ) (limit : ℕ) → after ≡ before → start ≡ []
    → IfSome (option_map (take limit) after) (λ xs. bytes ≡ start ++ xs) → length bytes < limit → IfSome before (λ rest. bytes ≡ rest)
whole_if_known None after start bytes limit same empty read short = tt
whole_if_known (Some xs) after start bytes limit same empty read short =
    let known : IfSome (option_map (take limit) (Some xs)) (λ ys. bytes ≡ [] ++ ys) = rw (same, empty) at read in
    whole xs bytes limit known short

pub returns-clause-whole : goal.returns-clause-whole
returns-clause-whole g c = whole_if_known _ _ _ _ c.take.result.limit (ap g.R.Read.remaining c.take.ensures.inner) c.new-bytes.ensures.items c.in_default.ensures.bytes (omega (arith, c.take.ensures.limit))
