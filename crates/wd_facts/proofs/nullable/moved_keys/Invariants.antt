use Rattle.std.proofs.Common.{◌≡◌, ◌+◌, ◌-◌, ◌++◌, true, map, nat_lt, drop}
use Rattle.std.specs.List.{list_all}
use Rattle.wd_facts.proofs.nullable.moved_keys.Given as goal

abbrev pub invariant-loop-key : goal.invariant-loop-key
invariant-loop-key l = (map (λ k. k.items) l.moved.items ++ map (map (λ c. l.by + c)) (map (λ k. k.items) (drop l.key-index l.keys)) ≡ map (map (λ c. l.by + c)) (map (λ k. k.items) l.keys)) × (list_all (list_all (λ c. nat_lt c (65536 - l.by))) (map (λ k. k.items) (drop l.key-index l.keys)) ≡ true)
