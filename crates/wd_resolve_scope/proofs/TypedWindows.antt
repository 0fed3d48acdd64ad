-- Windows over typed operands.
use Rattle.std.proofs.Common.{◌≡◌, refl, subst, Bool, true, false, cond, not, ◌&&◌, ◌||◌, List, [], ◌∷◌, Option, Some, None, is_some, Ok, Err}
use Rattle.wd_plan.specs.declared.window.Frame.{Frame}
use Rattle.wd_plan.specs.declared.window.FrameMode.{FrameMode}
use Rattle.wd_plan.specs.declared.window.FrameMode.TheVariants as mode
use Rattle.wd_plan.specs.Fits.{are_bounds, has_offset}
use Rattle.wd_syntax.specs.declared.frame.Frame.{Frame as WrittenFrame}
use Rattle.wd_resolve_operand.specs.declared.cause.Cause.{Cause}
use Rattle.wd_resolve_operand.specs.declared.cause.Cause.TheVariants.{FrameBounds, RangeOffset, GroupsWithoutOrder, WindowCopy}
use Rattle.wd_resolve_operand.specs.Causes.{Meant, ◌>>=◌}
use Rattle.wd_resolve_call.specs.Rows.{RowExpression}
use Rattle.wd_resolve_call.specs.Windows.{BoundKey, BoundWindow, copied, frame_meant, frame_over, framed_by_mode, is_empty, is_one_number, order_copied, window_meant}
use Rattle.wd_resolve_scope.specs.Typed.{AreKeys, AreTyped, IsWindow, Readable, is_framed}
use Rattle.wd_resolve_call.proofs.Meanings.{bound, ok_is}

-- what a test lets through
stopped : {A : Type 0} (b : Bool) (m : Meant A) (y : A) (cause : Cause) → cond b (Err cause) m ≡ Ok y → (b ≡ false) × (m ≡ Ok y)
stopped true m y cause h = cc
stopped false m y cause h = (refl, h)

module _ (r : Readable) where
  framed_is : (m : FrameMode) (order : List BoundKey) (frame checked : Frame) → framed_by_mode m order frame ≡ Ok checked → (frame ≡ checked) × (is_framed m order frame ≡ true)
  framed_is mode.Rows order frame checked is = (ok_is _ _ is, refl)
  framed_is mode.Range order frame checked is = by (has_offset frame.start || has_offset frame.end) (is_one_number order) is
    where
      by : (a b : Bool) → cond (a && not b) (Err RangeOffset) (Ok frame) ≡ Ok checked → (frame ≡ checked) × ((not a || b) ≡ true)
      by true true is = (ok_is _ _ is, refl)
      by true false is = cc
      by false b is = (ok_is _ _ is, refl)
  framed_is mode.Groups order frame checked is = by (is_empty order) is
    where
      by : (a : Bool) → cond a (Err GroupsWithoutOrder) (Ok frame) ≡ Ok checked → (frame ≡ checked) × (not a ≡ true)
      by true is = cc
      by false is = (ok_is _ _ is, refl)

  pub frame_over_is : (order : List BoundKey) (frame checked : Frame) → frame_over order frame ≡ Ok checked → (frame ≡ checked) × (are_bounds frame.start frame.end ≡ true) × (is_framed frame.mode order frame ≡ true)
  frame_over_is order frame checked is = by (are_bounds frame.start frame.end) is
    where
      by : (b : Bool) → cond b (framed_by_mode frame.mode order frame) (Err FrameBounds) ≡ Ok checked → (frame ≡ checked) × (b ≡ true) × (is_framed frame.mode order frame ≡ true)
      by true is = let f = framed_is frame.mode order frame checked is in (f.0, refl, f.1)
      by false is = cc

  order_copied_is : (base keys all : List BoundKey) → AreKeys r base → AreKeys r keys → order_copied base keys ≡ Ok all → AreKeys r all
  order_copied_is base [] all h g is = subst (AreKeys r) (ok_is _ _ is) h
  order_copied_is [] (key ∷ keys) all h g is = subst (AreKeys r) (ok_is _ _ is) g
  order_copied_is (other ∷ others) (key ∷ keys) all h g is = cc

  abbrev pub IsBase : Option BoundWindow → Type 0
  IsBase None = Unit {0}
  IsBase (Some base) = IsWindow r base

  copied_is : (base : Option BoundWindow) (partition : List RowExpression) (order : List BoundKey) (lists : List RowExpression × List BoundKey) → IsBase base → AreTyped r partition → AreKeys r order → copied base partition order ≡ Ok lists → AreTyped r lists.0 × AreKeys r lists.1
  copied_is None partition order lists h p o is = let e = ok_is _ _ is in (subst (λ l. AreTyped r l.0) e p, subst (λ l. AreKeys r l.1) e o)
  copied_is (Some base) partition order lists h p o is =
      let s = stopped (base.framed || not (is_empty partition)) (order_copied base.order order >>= λ keys. Ok (base.partition, keys)) lists WindowCopy is in
      let k = bound (order_copied base.order order) (λ keys. Ok (base.partition, keys)) lists s.1 in
      let e = ok_is _ _ k.2 in
      (subst (λ l. AreTyped r l.0) e h.partition, subst (λ l. AreKeys r l.1) e (order_copied_is base.order order k.0 h.order o k.1))

  pub window_is : (base : Option BoundWindow) (partition : List RowExpression) (order : List BoundKey) (written : Option WrittenFrame) (w : BoundWindow) → IsBase base → AreTyped r partition → AreKeys r order → window_meant base partition order written ≡ Ok w → IsWindow r w
  window_is base partition order written w h p o is =
      let made = λ (lists : List RowExpression × List BoundKey) (checked : Frame). Ok (record { partition = lists.0; order = lists.1; frame = checked; framed = is_some written }) in
      let f = bound (frame_meant written) (λ frame. copied base partition order >>= λ lists. frame_over lists.1 frame >>= λ checked. made lists checked) w is in
      let l = bound (copied base partition order) (λ lists. frame_over lists.1 f.0 >>= λ checked. made lists checked) w f.2 in
      let c = bound (frame_over l.0.1 f.0) (λ checked. made l.0 checked) w l.2 in
      let lists = copied_is base partition order l.0 h p o l.1 in
      let frame = frame_over_is l.0.1 f.0 c.0 c.1 in
      subst (IsWindow r) (ok_is _ _ c.2) (subst (λ g. IsWindow r (record { partition = l.0.0; order = l.0.1; frame = g; framed = is_some written })) frame.0 (record { partition = lists.0; order = lists.1; bounds = frame.1; frame = frame.2 }))
