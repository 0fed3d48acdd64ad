use Rattle.std.proofs.Common.{arith, ◌≡◌, ◌+◌, ◌-◌, ◌++◌, ℕ, List, length, take, drop, take-add, Option, subst, sym}
use Rattle.std.proofs.lemmas.List.{take_all, length-drop, length-take}
use Rattle.std.proofs.KnownBytes.{Appends-trans, Appends-kept}
use Rattle.std.specs.Io.KnownBytes.{Appends}
use Rattle.wd_command.proofs.streams.write_text.Goals as goal
use Rattle.wd_command.proofs.streams.write_text.Goals.{in-Ok, in-Err+else-ne}

-- a write of the rest goes on with the text
writes_on : (before so_far after : Option (List ℕ)) (text : List ℕ) (at n : ℕ) → Appends before so_far (take at text)
    → Appends so_far after (take n (take (length text - at) (drop at text))) → Appends before after (take (at + n) text)
writes_on before so_far after text at n written more =
    let rest : take (length text - at) (drop at text) ≡ drop at text = take_all _ _ (omega (arith, length-drop at text)) in
    let joined : take at text ++ take n (take (length text - at) (drop at text)) ≡ take (at + n) text = rw rest (sym (take-add at n text)) in
    subst (λ bytes. Appends before after bytes) joined (Appends-trans before so_far after _ _ written more)

pub loop-preserved : goal.loop-preserved
loop-preserved g c =
    elim c.match-write.branch [
      | in-Ok w ↦ record {
        written = rw w.at-is (writes_on _ _ _ c.args.text.now c.loop.at w.in-Ok.n c.loop.invariant.written w.in-Ok.ensures.bytes);
        within = omega (arith, w.in-Ok.ensures.bound, length-take (length c.args.text.now - c.loop.at) (drop c.loop.at c.args.text.now), length-drop c.loop.at c.args.text.now);
      }
      | in-Err+else-ne w ↦ record {
        written = rw w.at-is (Appends-kept _ _ _ _ c.loop.invariant.written w.in-Err.ensures.bytes);
        within = omega (arith, c.loop.invariant.within);
      }
    ]
