use Rattle.std.proofs.Common.{arith, ◌≡◌, ◌≤◌, ◌∙◌, Some, refl, sym, subst, ap, ap₂, map, [], ◌∷◌, ◌++◌, length, List, ℕ}
use Rattle.wd_command.specs.declared.files.TheConstants.{MOST_BYTES}
use Rattle.wd_run.specs.Runs.{data_of}
use Rattle.wd_command.specs.Memory.{file_at, handed_of}
use Rattle.wd_command.specs.declared.memory.MemoryFiles.{MemoryFiles}
use Rattle.wd_command.proofs.MemoryLemmas.{first_at-Some, bytes_at, map-after}
use Rattle.wd_command.proofs.memory.MemoryFilesFiles.read.Goals as goal
use Rattle.wd_command.proofs.memory.MemoryFilesFiles.read.Goals.{then-fails, else-fails}

pub returns-clause-bounded : goal.returns-clause-bounded
returns-clause-bounded c =
    elim c.if-fails.branch [
      | then-fails w ↦ let none = sym w.found-is ∙ c.in-Some.is in grind (arith, none)
      | else-fails w ↦
          let found = first_at-Some c.args.path.now c.fails.new.self.files.now c.in-Some.i (sym w.position-found.ensures ∙ sym w.found-is ∙ c.in-Some.is) in
          subst (λ (bytes : List ℕ). length bytes ≤ MOST_BYTES) (bytes_at c.fails.new.self.files.now c.in-Some.i ∙ sym c.in_ok-bytes.ensures.handed) found.bounded
    ]

pub returns-clause-handed : goal.returns-clause-handed
returns-clause-handed c =
    elim c.if-fails.branch [
      | then-fails w ↦ let none = sym w.found-is ∙ c.in-Some.is in grind (arith, none)
      | else-fails w ↦
          let found = first_at-Some c.args.path.now c.fails.new.self.files.now c.in-Some.i (sym w.position-found.ensures ∙ sym w.found-is ∙ c.in-Some.is) in
          let bytes = bytes_at c.fails.new.self.files.now c.in-Some.i ∙ sym c.in_ok-bytes.ensures.handed in
          let file : file_at (data_of c.fails.new.self.files.now) c.in-Some.i ≡ (c.args.path.now, c.in_ok-bytes.bytes.items) = ap₂ (λ (p b : List ℕ). (p, b)) found.at_path bytes in
          let more : c.push.new.self.items ≡ c.fails.new.self.handed.items ++ c.in-Some.i ∷ [] = c.push.ensures.items ∙ rw c.if-is_err.ensures.negation refl in
          let handed = map-after (file_at (data_of c.fails.new.self.files.now)) c.fails.new.self.handed.items c.push.new.self.items c.in-Some.i (c.args.path.now, c.in_ok-bytes.bytes.items) more file in
          subst (λ (m : MemoryFiles). Some (map (file_at (data_of c.fails.new.self.files.now)) c.push.new.self.items) ≡ Some (handed_of m ++ (c.args.path.now, c.in_ok-bytes.bytes.items) ∷ []))
          c.fails.ensures.rest (ap Some handed)
    ]
