-- What stands in a schema text.
use Rattle.std.proofs.Common.{◌≡◌, ◌≢◌, ◌∙◌, ℕ, suc, sym, ap, subst, List, [], ◌∷◌, ◌++◌, length-append, map, take, Result, Ok, Err, IfOk, IfErr, OnOk, refl, arith}
use Rattle.std.proofs.lemmas.List.Elements.{All-nil, All-cons, All-head, All-tail}
use Rattle.std.proofs.lemmas.List.Kept.{AllPairs-cons}
use Rattle.std.specs.List.{All, AllPairs}
use Rattle.wd_lex.proofs.TextLaws.{no_cause, one_list_of_tokens}
use Rattle.wd_lex.specs.Lexed.{kinds_of}
use Rattle.wd_schema.specs.declared.error.SchemaError.{SchemaError}
use Rattle.wd_schema.specs.declared.error.SchemaError.TheVariants.{Tokens, TableTwice, ColumnTwice, UnknownColumn, SecondPrimaryKey, KeyColumnTwice, TooMany, UnknownType, NullForbidden, Unexpected, OutOfMemory}
use Rattle.wd_schema.specs.Declares.{AllKeep, ColumnsDiffer, HasOnePrimary, IsSmall, KeyColumnsDiffer, KeysNameColumns, NullsAreAllowed, TypesAreKnown, table_declared}
use Rattle.wd_schema.specs.Laws.{HasMeaningOrCause, HasOneMeaning, UnexpectedIsNoSchema}
use Rattle.wd_schema.specs.Schemas.{schema_of}
use Rattle.wd_schema.specs.Tables.{TableRule}
use Rattle.wd_schema.specs.Texts.{Breaks, Declares, GivesTables, HasCause}
use Rattle.wd_schema.specs.WellFormed.{IsWellFormed}
use Rattle.wd_schema.specs.declared.schema.Schema.{Schema}
use Rattle.wd_read_statements.specs.Grammar.{Begins, spell_schema}
use Rattle.wd_read_statements.specs.Written.{SchemaTree, TableTree, name_text}
use Rattle.wd_read_statements.proofs.SchemaLaws.{one_tree, schema_statements}

-- ---- what the first tables keep

all_front : {X : Type 0} (P : X → Type 0) (xs ys : List X) → All P (xs ++ ys) → All P xs
all_front P [] ys all = All-nil P
all_front P (x ∷ xs) ys all = All-cons P x xs (All-head P x (xs ++ ys) all) (all_front P xs ys (All-tail P x (xs ++ ys) all))

pairs_front : {X : Type 0} (R : X → X → Type 0) (xs ys : List X) → AllPairs R (xs ++ ys) → AllPairs R xs
pairs_front R [] ys pairs = λ i j d lt within. absurd (omega arith)
pairs_front R (x ∷ xs) ys pairs =
    AllPairs-cons R x xs (all_front (R x) xs ys (λ k d lt. pairs 0 (suc k) d (omega arith) (omega arith))) (pairs_front R xs ys (λ i j d lt within. pairs (suc i) (suc j) d (omega arith) (omega arith)))

keeps_front : (refusal : SchemaError) (tables more : List TableTree) → AllKeep refusal (tables ++ more) → AllKeep refusal tables
keeps_front TableTwice tables more all = pairs_front (λ a b. name_text a.name ≢ name_text b.name) tables more all
keeps_front TooMany tables more all = (omega (arith, length-append tables more, all.0), all_front IsSmall tables more all.1)
keeps_front ColumnTwice tables more all = all_front ColumnsDiffer tables more all
keeps_front UnknownColumn tables more all = all_front KeysNameColumns tables more all
keeps_front SecondPrimaryKey tables more all = all_front HasOnePrimary tables more all
keeps_front KeyColumnTwice tables more all = all_front KeyColumnsDiffer tables more all
keeps_front UnknownType tables more all = all_front TypesAreKnown tables more all
keeps_front NullForbidden tables more all = all_front NullsAreAllowed tables more all
keeps_front (Tokens error) tables more all = tt
keeps_front (Unexpected place) tables more all = tt
keeps_front OutOfMemory tables more all = tt

-- ---- causes

pub broken_is_cause : (text : List ℕ) (refusal : SchemaError) → Breaks text refusal → HasCause text refusal
broken_is_cause text TableTwice breaks = breaks
broken_is_cause text ColumnTwice breaks = breaks
broken_is_cause text UnknownColumn breaks = breaks
broken_is_cause text SecondPrimaryKey breaks = breaks
broken_is_cause text KeyColumnTwice breaks = breaks
broken_is_cause text TooMany breaks = breaks
broken_is_cause text UnknownType breaks = breaks
broken_is_cause text NullForbidden breaks = breaks
broken_is_cause text (Tokens error) breaks = absurd (breaks.broken tt)
broken_is_cause text (Unexpected place) breaks = absurd (breaks.broken tt)
broken_is_cause text OutOfMemory breaks = absurd (breaks.broken tt)

-- the first tables of a text that declares others keep what these keep
not_broken : (text : List ℕ) (tables : List TableRule) (refusal : SchemaError) → Declares text tables → Breaks text refusal → ⊥
not_broken text tables refusal d breaks =
    let same : kinds_of breaks.tokens ≡ spell_schema d.tree = ap kinds_of (one_list_of_tokens text breaks.tokens d.tokens breaks.lexed d.lexed) ∙ d.spelled in
    let front = (schema_statements d.tree d.whole).all breaks.tables (subst (λ ks. Begins ks breaks.tables) same breaks.begins) in
    breaks.broken (keeps_front refusal breaks.tables front.0 (subst (AllKeep refusal) front.1 (d.kept refusal)))

pub unexpected_is_no_schema : UnexpectedIsNoSchema
unexpected_is_no_schema text place tokens tree stops lexed whole spelled =
    let same : kinds_of stops.tokens ≡ spell_schema tree = ap kinds_of (one_list_of_tokens text stops.tokens tokens stops.lexed lexed) ∙ spelled in
    stops.stops.none tree whole (ap (take (suc place)) (sym same))

pub meaning_or_cause : HasMeaningOrCause
meaning_or_cause text tables (Tokens error) d cause = no_cause text d.tokens error d.lexed cause
meaning_or_cause text tables (Unexpected place) d cause = unexpected_is_no_schema text place d.tokens d.tree cause d.lexed d.whole d.spelled
meaning_or_cause text tables OutOfMemory d cause = cause
meaning_or_cause text tables TableTwice d cause = not_broken text tables TableTwice d cause
meaning_or_cause text tables ColumnTwice d cause = not_broken text tables ColumnTwice d cause
meaning_or_cause text tables UnknownColumn d cause = not_broken text tables UnknownColumn d cause
meaning_or_cause text tables SecondPrimaryKey d cause = not_broken text tables SecondPrimaryKey d cause
meaning_or_cause text tables KeyColumnTwice d cause = not_broken text tables KeyColumnTwice d cause
meaning_or_cause text tables TooMany d cause = not_broken text tables TooMany d cause
meaning_or_cause text tables UnknownType d cause = not_broken text tables UnknownType d cause
meaning_or_cause text tables NullForbidden d cause = not_broken text tables NullForbidden d cause

pub one_meaning : HasOneMeaning
one_meaning text first second a b =
    let tokens : a.tokens ≡ b.tokens = one_list_of_tokens text a.tokens b.tokens a.lexed b.lexed in
    let tree : a.tree ≡ b.tree = one_tree a.tree b.tree a.whole b.whole (sym a.spelled ∙ ap kinds_of tokens ∙ b.spelled) in
    a.are ∙ ap (λ (t : SchemaTree). map table_declared t.tables) tree ∙ sym b.are

-- ---- what is answered

refusal_is : (refusal : SchemaError) (Cause : SchemaError → Type 0) → (refusal ≢ OutOfMemory → Cause refusal) → ((other : SchemaError) → Cause other → ⊥) → refusal ≡ OutOfMemory
refusal_is OutOfMemory Cause cause none = refl
refusal_is (Tokens error) Cause cause none = absurd (none (Tokens error) (cause (λ e. cc)))
refusal_is (Unexpected place) Cause cause none = absurd (none (Unexpected place) (cause (λ e. cc)))
refusal_is TableTwice Cause cause none = absurd (none TableTwice (cause (λ e. cc)))
refusal_is ColumnTwice Cause cause none = absurd (none ColumnTwice (cause (λ e. cc)))
refusal_is UnknownColumn Cause cause none = absurd (none UnknownColumn (cause (λ e. cc)))
refusal_is SecondPrimaryKey Cause cause none = absurd (none SecondPrimaryKey (cause (λ e. cc)))
refusal_is KeyColumnTwice Cause cause none = absurd (none KeyColumnTwice (cause (λ e. cc)))
refusal_is TooMany Cause cause none = absurd (none TooMany (cause (λ e. cc)))
refusal_is UnknownType Cause cause none = absurd (none UnknownType (cause (λ e. cc)))
refusal_is NullForbidden Cause cause none = absurd (none NullForbidden (cause (λ e. cc)))

pub gives_by : (text : List ℕ) (result : Result Schema SchemaError) → IfOk result (λ schema. Declares text (schema_of schema)) → IfErr result (λ refusal. refusal ≢ OutOfMemory → HasCause text refusal)
    → (tables : List TableRule) → Declares text tables → GivesTables tables result
gives_by text (Ok schema) declares cause tables d = one_meaning text (schema_of schema) tables declares d
gives_by text (Err refusal) declares cause tables d = refusal_is refusal (HasCause text) cause (λ other. meaning_or_cause text tables other d)

pub refused_by : (text : List ℕ) (result : Result Schema SchemaError) → IfOk result (λ schema. Declares text (schema_of schema)) → OnOk result ((refusal : SchemaError) → HasCause text refusal → ⊥)
refused_by text (Ok schema) declares = λ refusal. meaning_or_cause text (schema_of schema) refusal declares
refused_by text (Err refusal) declares = tt
