use Rattle.std.proofs.Common.{◌≡◌, refl, sym, ℕ, Bool, true, false, cond, List, [], ◌∷◌, Some, None}
use Rattle.std.specs.Str.{bytes_eq}
use Rattle.wd_plan.specs.declared.function.FunctionName.{FunctionName}
use Rattle.wd_plan.specs.declared.function.FunctionName.TheVariants.{RowNumber, Rank, DenseRank, Ntile, Lag, Lead, FirstValue, LastValue, NthValue, Count, Sum, Min, Max}
use Rattle.wd_plan.specs.Functions.{word}
use Rattle.wd_resolve_call.specs.Functions.{function_in, function_names, if_aggregate}
use Rattle.wd_resolve_call.proofs.Texts.{other_bytes}
use Rattle.wd_resolve_call.proofs.function.group_function_named.Goals as goal

-- a word of no aggregate
skip : (f : FunctionName) (functions : List FunctionName) (name : List ℕ) → if_aggregate (Some f) ≡ None → if_aggregate (function_in functions name) ≡ None → if_aggregate (function_in (f ∷ functions) name) ≡ None
skip f functions name h g = by (bytes_eq (word f) name)
  where
    by : (b : Bool) → if_aggregate (cond b (Some f) (function_in functions name)) ≡ None
    by true = h
    by false = g

abbrev aggregates_in : List FunctionName
aggregates_in = Count ∷ Sum ∷ Min ∷ Max ∷ []

others : (name : List ℕ) → if_aggregate (function_in aggregates_in name) ≡ None → if_aggregate (function_in function_names name) ≡ None
others name h =
    let a = skip NthValue aggregates_in name refl h in
    let b = skip LastValue (NthValue ∷ aggregates_in) name refl a in
    let c = skip FirstValue (LastValue ∷ NthValue ∷ aggregates_in) name refl b in
    let d = skip Lead (FirstValue ∷ LastValue ∷ NthValue ∷ aggregates_in) name refl c in
    let e = skip Lag (Lead ∷ FirstValue ∷ LastValue ∷ NthValue ∷ aggregates_in) name refl d in
    let f = skip Ntile (Lag ∷ Lead ∷ FirstValue ∷ LastValue ∷ NthValue ∷ aggregates_in) name refl e in
    let g = skip DenseRank (Ntile ∷ Lag ∷ Lead ∷ FirstValue ∷ LastValue ∷ NthValue ∷ aggregates_in) name refl f in
    let i = skip Rank (DenseRank ∷ Ntile ∷ Lag ∷ Lead ∷ FirstValue ∷ LastValue ∷ NthValue ∷ aggregates_in) name refl g in
    skip RowNumber (Rank ∷ DenseRank ∷ Ntile ∷ Lag ∷ Lead ∷ FirstValue ∷ LastValue ∷ NthValue ∷ aggregates_in) name refl i

pub returns-in_default : goal.returns-in_default
returns-in_default c =
    let name = c.args.name.now in
    let n = c.in_default in
    rw (other_bytes _ name n.not-grouping) (sym (others name (rw (other_bytes _ name n.not-count, other_bytes _ name n.not-sum, other_bytes _ name n.not-min, other_bytes _ name n.not-max) refl)))
