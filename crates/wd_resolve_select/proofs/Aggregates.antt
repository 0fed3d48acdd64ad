-- An aggregate over the columns where its argument stands.
use Rattle.std.proofs.Common.{◌≡◌, refl, ℕ, Bool, true, ◌&&◌, Some}
use Rattle.std.specs.List.{AllByRecursion}
use Rattle.wd_plan.specs.declared.expression.ValueKind.{ValueKind}
use Rattle.wd_plan.specs.declared.function.FrameFunction.TheVariants as of_frame
use Rattle.wd_plan.specs.declared.function.Function.TheVariants.{OfFrame}
use Rattle.wd_plan.specs.Fits.{Kinds, kind_of_function, takes}
use Rattle.wd_resolve_call.specs.Rows.{BoundAggregate, count_rows, count_of, sum_of, least_of, greatest_of, aggregated, kind_of_aggregate}
use Rattle.wd_resolve_scope.specs.Typed.{IsAggregate}
use Rattle.wd_resolve_scope.proofs.Typing.{and_both}
use Rattle.wd_resolve_select.specs.Steps.{aggregate_over}

and_true : (b : Bool) → b ≡ true → (b && true) ≡ true
and_true b h = and_both b true h refl

module _ {E : Type 0} (Is : E → ValueKind → Type 0) (There : E → Type 0) (at : E → ℕ) (others : Kinds) (stands : (e : E) (k : ValueKind) → Is e k → There e → others (at e) ≡ Some k) where
  pub takes_aggregate : (a : BoundAggregate E) → IsAggregate Is a → AllByRecursion There (aggregated a) → takes others (OfFrame (of_frame.Aggregate (aggregate_over at a))) ≡ true
  takes_aggregate count_rows h g = refl
  takes_aggregate (count_of a) h g = rw (stands a.expression a.kind h g.0) refl
  takes_aggregate (sum_of a) h g = rw (stands a.expression a.kind h.0 g.0) (rw h.1 refl)
  takes_aggregate (least_of a) h g = rw (stands a.expression a.kind h.0 g.0) (and_true _ h.1)
  takes_aggregate (greatest_of a) h g = rw (stands a.expression a.kind h.0 g.0) (and_true _ h.1)

  pub gives_aggregate : (a : BoundAggregate E) → IsAggregate Is a → AllByRecursion There (aggregated a) → kind_of_function others (OfFrame (of_frame.Aggregate (aggregate_over at a))) ≡ Some (kind_of_aggregate a)
  gives_aggregate count_rows h g = refl
  gives_aggregate (count_of a) h g = refl
  gives_aggregate (sum_of a) h g = refl
  gives_aggregate (least_of a) h g = stands a.expression a.kind h.0 g.0
  gives_aggregate (greatest_of a) h g = stands a.expression a.kind h.0 g.0
