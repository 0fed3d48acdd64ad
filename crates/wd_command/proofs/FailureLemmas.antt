-- Failures: what is handed up by `?`, and causes from those of the parts.
use Rattle.std.proofs.Common.{◌≡◌, ◌∙◌, ◌+◌, ◌++◌, ℕ, List, Option, Result, Ok, Err, IfErr, IsErrAnd, ap, subst, sym}
use Rattle.std.proofs.KnownBytes.{Keeps-refl}
use Rattle.clap.specs.declared.error.Error.{Error}
use Rattle.wd_command.proofs.FilesLemmas.{HandsOver-trans}
use Rattle.wd_command.specs.Failures.{Causes, HasReason, IsBy, IsFor, IsRefusal, IsUncut, IsUnread, no_cause}
use Rattle.wd_command.specs.Files.{AllRead, File, Reads, StopsAt}
use Rattle.wd_command.specs.Statuses.{IsEnding}
use Rattle.wd_command.specs.declared.failure.Failure.{Failure}
use Rattle.wd_command.specs.declared.failure.Refusal.{Refusal}
use Rattle.wd_command.specs.declared.failure.Failure.TheVariants.{CommandLine, NotText, Unassigned, Refused, Fault, CannotRead, CannotWrite, OutOfMemory}
use Rattle.wd_value.specs.declared.value.Fault.{Fault as QueryFault}

-- `?` hands the failure up as it is
pub IfErr-from_same : {T : Type 0} (r : Result T Failure) (failed : Failure) (P : Failure → Type 0) → IsErrAnd r (λ failure. failure ≡ failed) → P failed → IfErr r P
IfErr-from_same (Ok x) failed P is holds = tt
IfErr-from_same (Err failure) failed P is holds = subst P (sym is) holds

-- what is known of a failure says what is wanted of it
pub IfErr-from_known : {T : Type 0} (r : Result T Failure) (P Q : Failure → Type 0) → IsErrAnd r P → ((failure : Failure) → P failure → Q failure) → IfErr r Q
IfErr-from_known (Ok x) P Q known step = tt
IfErr-from_known (Err failure) P Q known step = step failure known

-- causes that say as much as others
pub record Gives (P Q : Causes) : Type 0 where
  pub words : (error : Error) → P.words error → Q.words error
  pub not_text : P.not_text → Q.not_text
  pub unassigned : (word : List ℕ) → P.unassigned word → Q.unassigned word
  pub refused : (refusal : Refusal) → P.refused refusal → Q.refused refusal
  pub fault : (fault : QueryFault) → P.fault fault → Q.fault fault
  pub unread : (path : List ℕ) → P.unread path → Q.unread path
  pub unwritten : P.unwritten → Q.unwritten

pub none_gives : (Q : Causes) → Gives no_cause Q
none_gives Q = record {
  words = λ error h. absurd h;
  not_text = λ h. absurd h;
  unassigned = λ word h. absurd h;
  refused = λ refusal h. absurd h;
  fault = λ fault h. absurd h;
  unread = λ path h. absurd h;
  unwritten = λ h. absurd h;
}

pub IsBy-weaker : (P Q : Causes) → Gives P Q → (failure : Failure) → IsBy P failure → IsBy Q failure
IsBy-weaker P Q gives (CommandLine error) h = gives.words error h
IsBy-weaker P Q gives NotText h = gives.not_text h
IsBy-weaker P Q gives (Unassigned word) h = gives.unassigned word.now h
IsBy-weaker P Q gives (Refused refusal) h = gives.refused refusal h
IsBy-weaker P Q gives (Fault fault) h = gives.fault fault h
IsBy-weaker P Q gives (CannotRead path) h = gives.unread path.now h
IsBy-weaker P Q gives CannotWrite h = gives.unwritten h
IsBy-weaker P Q gives OutOfMemory h = tt

-- a failure of one kind
module _ (Q : Causes) where
  pub by_clap : (P : Error → Type 0) → ((error : Error) → P error → Q.words error) → (failure : Failure) → IsBy (record no_cause { words = P }) failure → IsBy Q failure
  by_clap P step failure h =
      let none = none_gives Q in
      IsBy-weaker (record no_cause { words = P }) Q (record {
        words = step;
        not_text = none.not_text;
        unassigned = none.unassigned;
        refused = none.refused;
        fault = none.fault;
        unread = none.unread;
        unwritten = none.unwritten;
      }) failure h

  pub by_word : (P : List ℕ → Type 0) → ((word : List ℕ) → P word → Q.unassigned word) → (failure : Failure) → IsUncut P failure → IsBy Q failure
  by_word P step failure h =
      let none = none_gives Q in
      IsBy-weaker (record no_cause { unassigned = P }) Q (record {
        words = none.words;
        not_text = none.not_text;
        unassigned = step;
        refused = none.refused;
        fault = none.fault;
        unread = none.unread;
        unwritten = none.unwritten;
      }) failure h

  pub by_refusal : (P : Refusal → Type 0) → ((refusal : Refusal) → P refusal → Q.refused refusal) → (failure : Failure) → IsRefusal P failure → IsBy Q failure
  by_refusal P step failure h =
      let none = none_gives Q in
      IsBy-weaker (record no_cause { refused = P }) Q (record {
        words = none.words;
        not_text = none.not_text;
        unassigned = none.unassigned;
        refused = step;
        fault = none.fault;
        unread = none.unread;
        unwritten = none.unwritten;
      }) failure h

  pub by_read : (IsNext : List File → List ℕ → Type 0) (before after : Reads) → ((path : List ℕ) → StopsAt IsNext before after path → Q.unread path)
      → (failure : Failure) → IsUnread IsNext before after failure → IsBy Q failure
  by_read IsNext before after step failure h =
      let none = none_gives Q in
      IsBy-weaker (record no_cause { unread = StopsAt IsNext before after }) Q (record {
        words = none.words;
        not_text = none.not_text;
        unassigned = none.unassigned;
        refused = none.refused;
        fault = none.fault;
        unread = step;
        unwritten = none.unwritten;
      }) failure h

-- a read that failed after files that were read before
pub IsUnread-after : (before middle after : Reads) (first : List File) (Known Wanted : List File → List ℕ → Type 0) → AllRead before middle first
    → ((files : List File) (path : List ℕ) → Known files path → Wanted (first ++ files) path)
    → (failure : Failure) → IsUnread Known middle after failure → IsUnread Wanted before after failure
IsUnread-after before middle after first Known Wanted read step =
    by_read (record no_cause { unread = StopsAt Wanted before after }) Known middle after (λ path h. record {
      files = first ++ h.files;
      read = HandsOver-trans before.handed middle.handed after.handed first h.files read.handed h.read;
      one_failed = h.one_failed ∙ ap (λ n. n + 1) read.none_failed;
      next = step h.files path h.next;
    })

-- or where more may follow
pub IsUnread-weaker : (before after : Reads) (Known Wanted : List File → List ℕ → Type 0) → ((files : List File) (path : List ℕ) → Known files path → Wanted files path)
    → (failure : Failure) → IsUnread Known before after failure → IsUnread Wanted before after failure
IsUnread-weaker before after Known Wanted step =
    by_read (record no_cause { unread = StopsAt Wanted before after }) Known before after (λ path h. record {
      files = h.files;
      read = h.read;
      one_failed = h.one_failed;
      next = step h.files path h.next;
    })

-- a refusal for a cause in the texts
pub refused_for : {E : Type 0} (Q : Causes) (HasCause : E → Type 0) (SaysError : E → Refusal → Type 0) → ((refusal : Refusal) → IsFor HasCause SaysError refusal → Q.refused refusal)
    → (error : E) → HasCause error → (failure : Failure) → IsRefusal (SaysError error) failure → IsBy Q failure
refused_for Q HasCause SaysError step error cause = by_refusal Q (SaysError error) (λ refusal says. step refusal (error, cause, says))

-- nothing was written
pub IsEnding-from_reason : (words : List (List ℕ)) (before after : Reads) (out : Option (List ℕ)) (failure : Failure) → HasReason words before after failure
    → IsEnding words before after out out failure
IsEnding-from_reason words before after out (CommandLine error) h = (h, Keeps-refl out)
IsEnding-from_reason words before after out NotText h = absurd h
IsEnding-from_reason words before after out (Unassigned word) h = (h, Keeps-refl out)
IsEnding-from_reason words before after out (Refused refusal) h = (h, Keeps-refl out)
IsEnding-from_reason words before after out (Fault fault) h = (h, Keeps-refl out)
IsEnding-from_reason words before after out (CannotRead path) h = (h, Keeps-refl out)
IsEnding-from_reason words before after out CannotWrite h = absurd h
IsEnding-from_reason words before after out OutOfMemory h = (h, Keeps-refl out)
