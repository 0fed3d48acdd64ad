use Rattle.wd_markup.proofs.Naming.{named_joined}
use Rattle.wd_markup.proofs.escape.push_name.Goals as goal

pub returns : goal.returns
returns c =
    rw (c.in_ok-push_str-2.ensures.bytes, c.in_ok-push_digit-4.ensures, c.in_ok-push_digit-3.ensures, c.in_ok-push_digit-2.ensures, c.in_ok-push_digit.ensures, c.in_ok-push_str.ensures.bytes) (named_joined _ _ _ _ _)
