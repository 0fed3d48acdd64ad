-- Worked certificates, checked by the definitions.
use Rattle.std.specs.Prelude.{◌≡◌, ℕ, Bool, true, false, List, [], ◌∷◌, Option, Some, None, codes}
use Rattle.wd_value.specs.declared.value.ColumnType.{ColumnType}
use Rattle.wd_value.specs.declared.value.ColumnType.TheVariants.{BigInt, Text}
use Rattle.wd_schema.specs.declared.table.Column.{Column as TableColumn}
use Rattle.wd_schema.specs.Tables.{KeyRule, TableRule}
use Rattle.wd_plan.specs.declared.expression.ComparisonOp.TheVariants.{Equal}
use Rattle.wd_plan.specs.declared.window.Bound.TheVariants.{UnboundedPreceding, CurrentRow}
use Rattle.wd_plan.specs.declared.window.FrameMode.TheVariants.{Rows}
use Rattle.wd_plan.specs.Expressions.{Column, Compare, IsNotNull}
use Rattle.wd_plan.specs.Fits.{fits}
use Rattle.wd_plan.specs.Plans.{Filter, PlanTree, Join, Over}
use Rattle.wd_laws.specs.examples.Literals.{ascending, between, call, call_in, descending, first_value, limited, over, row_number, scan_t, select, sum, window}
use Rattle.wd_certificate.specs.Certificates.{CertificateRecord, NodeRecord, TraceRecord}
use Rattle.wd_certificate.specs.declared.certificate.Rule.{Rule}
use Rattle.wd_certificate.specs.declared.certificate.Rule.TheVariants.{Peers, Unique, Values, Exchange}
use Rattle.wd_certificate.specs.declared.certificate.Target.{Target}
use Rattle.wd_certificate.specs.declared.certificate.Target.TheVariants as target
use Rattle.wd_certificate.specs.declared.certificate.Version.TheVariants.{One, Two}
use Rattle.wd_certificate.specs.declared.error.CertError.TheVariants as refused
use Rattle.wd_step_facts.specs.declared.facts.Member.TheVariants as member
use Rattle.wd_rules.specs.Validity.{IsValidCertificate, first_refusal, given_at}

abbrev pub column : ColumnType → Bool → TableColumn
column kind not_null = record { name = codes "c"; kind = kind; not_null = not_null }

abbrev pub key : List ℕ → Bool → KeyRule
key columns primary = record { columns = columns; primary = primary; nulls_distinct = true }

-- CREATE TABLE t (id BIGINT PRIMARY KEY, g TEXT NOT NULL, v BIGINT, u BIGINT UNIQUE)
abbrev pub schema : List TableRule
schema = record { name = codes "t"; columns = column BigInt true ∷ column Text true ∷ column BigInt false ∷ column BigInt false ∷ []; keys = key (0 ∷ []) true ∷ key (3 ∷ []) false ∷ [] } ∷ []

-- ---- entries

abbrev pub trace : List ℕ → List ℕ → TraceRecord
trace from uses = record { from = from; uses = uses }

-- an entry that keeps what its first trace shows
abbrev pub keeps : List Target → TraceRecord → NodeRecord
keeps to t = record { calls = []; keep = record { to = to; trace = 0 } ∷ []; limit = None; traces = t ∷ [] }

-- an entry that keeps that these columns determine the row, by a trace that uses these facts
abbrev pub keeps_row : List ℕ → List ℕ → NodeRecord
keeps_row from uses = keeps (target.Row ∷ []) (trace from uses)

abbrev pub rules : List Rule → List TraceRecord → NodeRecord
rules calls traces = record { calls = calls; keep = []; limit = None; traces = traces }

abbrev pub by_keys : Option ℕ → List TraceRecord → NodeRecord
by_keys limit traces = record { calls = []; keep = []; limit = limit; traces = traces }

abbrev pub nothing : NodeRecord
nothing = rules [] []

-- ---- SELECT id, ROW_NUMBER() OVER (ORDER BY id) AS n FROM t

abbrev pub numbered : PlanTree
numbered = select (0 ∷ 1 ∷ []) (window (over [] (ascending 0 ∷ []) ∷ []) (call 0 row_number ∷ []) (select (0 ∷ []) scan_t))

-- these entries of the Scan and the Map, and this rule for the call
abbrev pub numbered_by : NodeRecord → NodeRecord → Rule → List NodeRecord
numbered_by first second rule = first ∷ second ∷ rules (rule ∷ []) (trace (0 ∷ []) (0 ∷ []) ∷ []) ∷ nothing ∷ []

abbrev pub of_table : NodeRecord
of_table = keeps_row (0 ∷ []) (0 ∷ [])

-- the query's certificate, where the Map's trace uses these facts
abbrev pub with_uses : List ℕ → List NodeRecord
with_uses uses = numbered_by of_table (keeps_row (0 ∷ []) uses) (Unique 0)

-- the query's certificate, where the Map keeps this by this trace
abbrev pub with_kept : List Target → List ℕ → List ℕ → List NodeRecord
with_kept to from uses = numbered_by of_table (keeps to (trace from uses)) (Unique 0)

-- ---- other queries

-- SELECT id, ROW_NUMBER() OVER (ORDER BY v) FROM t
abbrev pub by_v : PlanTree
by_v = select (0 ∷ 2 ∷ []) (window (over [] (ascending 1 ∷ []) ∷ []) (call 0 row_number ∷ []) (select (0 ∷ 2 ∷ []) scan_t))

-- SELECT v, ROW_NUMBER() OVER (ORDER BY v) FROM t
abbrev pub v_by_v : PlanTree
v_by_v = select (0 ∷ 1 ∷ []) (window (over [] (ascending 0 ∷ []) ∷ []) (call 0 row_number ∷ []) (select (2 ∷ []) scan_t))

abbrev pub exchanged : List NodeRecord
exchanged = nothing ∷ nothing ∷ rules (Exchange 0 ∷ []) (trace (0 ∷ []) [] ∷ []) ∷ nothing ∷ []

-- SELECT v, ROW_NUMBER() OVER (ORDER BY v), ROW_NUMBER() OVER (ORDER BY v DESC) FROM t
abbrev pub two_classes : PlanTree
two_classes =
    select (0 ∷ 1 ∷ 2 ∷ [])
    (window (over [] (ascending 0 ∷ []) ∷ over [] (descending 0 ∷ []) ∷ []) (call 0 row_number ∷ call 1 row_number ∷ [])
    (select (2 ∷ []) scan_t))

abbrev pub exchanged_twice : List NodeRecord
exchanged_twice = nothing ∷ nothing ∷ rules (Exchange 0 ∷ Exchange 0 ∷ []) (trace (0 ∷ []) [] ∷ []) ∷ nothing ∷ []

-- SELECT id, ROW_NUMBER() OVER (ORDER BY u) FROM t WHERE u IS NOT NULL
abbrev pub not_null_u : PlanTree
not_null_u = select (0 ∷ 2 ∷ []) (window (over [] (ascending 1 ∷ []) ∷ []) (call 0 row_number ∷ []) (select (0 ∷ 3 ∷ []) (Over (Filter (IsNotNull (Column 3))) scan_t)))

-- the Filter's only fact is that u determines the row
abbrev pub by_u : List NodeRecord
by_u = nothing ∷ keeps_row (3 ∷ []) (0 ∷ []) ∷ keeps_row (1 ∷ []) (4 ∷ 0 ∷ []) ∷ rules (Unique 0 ∷ []) (trace (1 ∷ []) (0 ∷ []) ∷ []) ∷ nothing ∷ []

-- SELECT id, SUM(v) OVER (ORDER BY g) FROM t
abbrev pub summed : PlanTree
summed = select (0 ∷ 3 ∷ []) (window (over [] (ascending 2 ∷ []) ∷ []) (call 0 (sum 1) ∷ []) (select (0 ∷ 2 ∷ 1 ∷ []) scan_t))

-- the sum over ROWS UNBOUNDED PRECEDING
abbrev pub running : PlanTree
running = select (0 ∷ 3 ∷ []) (window (over [] (ascending 2 ∷ []) ∷ []) (call_in (between Rows UnboundedPreceding CurrentRow) 0 (sum 1) ∷ []) (select (0 ∷ 2 ∷ 1 ∷ []) scan_t))

abbrev pub peers : List NodeRecord
peers = nothing ∷ nothing ∷ rules (Peers ∷ []) [] ∷ nothing ∷ []

-- SELECT v, FIRST_VALUE(v) OVER (ORDER BY v) FROM t
abbrev pub first_v : PlanTree
first_v = select (0 ∷ 1 ∷ []) (window (over [] (ascending 0 ∷ []) ∷ []) (call 0 (first_value 0) ∷ []) (select (2 ∷ []) scan_t))

abbrev pub valued : List NodeRecord
valued = nothing ∷ nothing ∷ rules (Values 0 ∷ []) (trace (0 ∷ []) [] ∷ []) ∷ nothing ∷ []

-- SELECT a.id, b.id, ROW_NUMBER() OVER (ORDER BY a.id, b.id) FROM t AS a JOIN t AS b ON a.v = b.v
abbrev pub joined : PlanTree
joined =
    select (0 ∷ 1 ∷ 2 ∷ [])
    (window (over [] (ascending 0 ∷ ascending 1 ∷ []) ∷ []) (call 0 row_number ∷ [])
    (select (0 ∷ 4 ∷ []) (Join (Some (Compare Equal (Column 2) (Column 6))) scan_t scan_t)))

-- the Join's trace uses these facts
abbrev pub joined_by : List ℕ → List NodeRecord
joined_by uses =
    of_table ∷ of_table ∷ keeps_row (0 ∷ 4 ∷ []) uses ∷ keeps_row (0 ∷ 1 ∷ []) (2 ∷ 4 ∷ 0 ∷ [])
    ∷ rules (Unique 0 ∷ []) (trace (0 ∷ 1 ∷ []) (0 ∷ []) ∷ []) ∷ nothing ∷ []

-- SELECT id, v FROM t ORDER BY v OFFSET o ROWS FETCH FIRST 1 ROW, without ties and with
abbrev pub first_of_v : ℕ → Bool → PlanTree
first_of_v offset ties = limited (ascending 1 ∷ []) offset (Some 1) ties (select (0 ∷ 2 ∷ []) scan_t)

-- SELECT id, v FROM t ORDER BY id FETCH FIRST 1 ROW ONLY
abbrev pub first_id : PlanTree
first_id = limited (ascending 0 ∷ []) 0 (Some 1) false (select (0 ∷ 2 ∷ []) scan_t)

-- the Map keeps that output 0 determines the row, and the Limit uses it
abbrev pub keyed : List NodeRecord
keyed = of_table ∷ keeps_row (0 ∷ []) (2 ∷ 0 ∷ []) ∷ by_keys (Some 0) (trace (0 ∷ []) (0 ∷ []) ∷ []) ∷ []

abbrev pub bare : List NodeRecord
bare = nothing ∷ nothing ∷ nothing ∷ []

-- certificates with these nodes
abbrev pub version_1 : List NodeRecord → CertificateRecord
version_1 nodes = record { nodes = nodes; version = One }

abbrev pub version_2 : List NodeRecord → CertificateRecord
version_2 nodes = record { nodes = nodes; version = Two }

pub record CertificatesComeOut : Type 0 where
  -- an order by the primary key is unique
  pub numbered_fits : fits schema numbered ≡ true
  pub unique : IsValidCertificate schema numbered (version_1 (with_uses (2 ∷ 0 ∷ [])))
  -- version 2 is allowed for every plan
  pub later_version : IsValidCertificate schema numbered (version_2 (with_uses (2 ∷ 0 ∷ [])))
  -- a certificate without a call's rule is not valid, nor one that keeps what its trace does not reach
  pub call_left_out : ¬ IsValidCertificate schema numbered (version_1 (of_table ∷ keeps_row (0 ∷ []) (2 ∷ 0 ∷ []) ∷ nothing ∷ nothing ∷ []))
  pub target_not_reached : ¬ IsValidCertificate schema numbered (version_1 (with_uses (2 ∷ [])))
  -- nor one that uses a fact before its left side is reached, nor one where two classes go by `exchange`
  pub use_not_reached : ¬ IsValidCertificate schema numbered (version_1 (with_uses (0 ∷ 2 ∷ [])))
  pub two_exchanges : ¬ IsValidCertificate schema two_classes (version_1 exchanged_twice)
  -- facts are used in the given order: the first fact's left side isn't reached yet
  pub early_use : first_refusal schema numbered (version_1 (with_uses (0 ∷ 2 ∷ []))) ≡ Some (refused.UnreachedUse 1)
  -- a trace that uses a fact that isn't given
  pub no_fact : first_refusal schema numbered (version_1 (with_uses (2 ∷ 0 ∷ 3 ∷ []))) ≡ Some (refused.OutOfRange 1)
  -- a trace that stops before the row
  pub short_trace : first_refusal schema numbered (version_1 (with_uses (2 ∷ []))) ≡ Some (refused.UnreachedClaim 1)
  -- a trace from a column that does not exist: the Map has one output and four inputs, so the last column is 4
  pub no_column : first_refusal schema numbered (version_1 (with_kept (target.Row ∷ []) (5 ∷ []) (2 ∷ 0 ∷ []))) ≡ Some (refused.OutOfRange 1)
  -- a Map keeps no fact about its inputs, even where a trace reaches it
  pub from_input : first_refusal schema numbered (version_1 (with_kept (target.Row ∷ []) (1 ∷ []) (0 ∷ []))) ≡ Some (refused.UnreachedClaim 1)
  -- nor a fact whose target is an input
  pub to_input : first_refusal schema numbered (version_1 (with_kept (target.Column 1 ∷ []) (0 ∷ []) (2 ∷ []))) ≡ Some (refused.OutOfRange 1)
  -- a rule that names a missing trace
  pub no_trace : first_refusal schema numbered (version_1 (numbered_by of_table (keeps_row (0 ∷ []) (2 ∷ 0 ∷ [])) (Unique 1))) ≡ Some (refused.OutOfRange 2)
  -- ROW_NUMBER doesn't go by peers
  pub no_peers : first_refusal schema numbered (version_1 (numbered_by of_table (keeps_row (0 ∷ []) (2 ∷ 0 ∷ [])) Peers)) ≡ Some (refused.UnjustifiedCall 2)
  -- one entry for each node
  pub missing_node : first_refusal schema numbered (version_1 bare) ≡ Some refused.Count
  -- one rule for each call, which is checked before any trace
  pub missing_rule : first_refusal schema numbered (version_1 (of_table ∷ keeps_row (0 ∷ []) (0 ∷ 2 ∷ []) ∷ nothing ∷ nothing ∷ [])) ≡ Some refused.Count
  -- rules only at a Window
  pub stray_rule : first_refusal schema (first_of_v 0 true) (version_1 (nothing ∷ nothing ∷ rules (Peers ∷ []) [] ∷ [])) ≡ Some refused.Count
  -- a limit only at a Limit, which is checked before the numbers of rules
  pub stray_limit : first_refusal schema numbered (version_1 (nothing ∷ by_keys (Some 0) [] ∷ nothing ∷ nothing ∷ [])) ≡ Some refused.Shape
  -- an order by another column isn't unique
  pub other_order : first_refusal schema by_v (version_1 (with_uses (2 ∷ 0 ∷ []))) ≡ Some (refused.UnjustifiedCall 2)
  -- a class whose columns are all columns exchanges whole rows
  pub exchange : IsValidCertificate schema v_by_v (version_1 exchanged)
  pub second_exchange : first_refusal schema two_classes (version_1 exchanged_twice) ≡ Some (refused.SecondExchange 2)
  -- a nullable key determines the row where it is not null
  pub full_key : IsValidCertificate schema not_null_u (version_1 by_u)
  pub nullable_key : first_refusal schema not_null_u (version_1 (keeps_row (3 ∷ []) (1 ∷ []) ∷ nothing ∷ nothing ∷ rules (Peers ∷ []) [] ∷ nothing ∷ [])) ≡ Some (refused.OutOfRange 0)
  -- a total over a stable frame goes by peers, a running total over ROWS doesn't
  pub stable_frame : IsValidCertificate schema summed (version_1 peers)
  pub running_frame : first_refusal schema running (version_1 peers) ≡ Some (refused.UnjustifiedCall 2)
  -- FIRST_VALUE of a column of its class
  pub values : IsValidCertificate schema first_v (version_1 valued)
  -- both sides of a Join determine its row, one side doesn't
  pub join_fits : fits schema joined ≡ true
  pub both_sides : IsValidCertificate schema joined (version_1 (joined_by (0 ∷ 1 ∷ [])))
  pub one_side : first_refusal schema joined (version_1 (joined_by (0 ∷ []))) ≡ Some (refused.UnreachedClaim 2)
  -- a limit with ties and no offset, without either, with both, and by keys
  pub ties : IsValidCertificate schema (first_of_v 0 true) (version_1 bare)
  pub no_ties : first_refusal schema (first_of_v 0 false) (version_1 bare) ≡ Some (refused.UnjustifiedLimit 2)
  pub ties_after_an_offset : first_refusal schema (first_of_v 1 true) (version_1 bare) ≡ Some (refused.UnjustifiedLimit 2)
  pub keys : IsValidCertificate schema first_id (version_1 keyed)
  pub other_keys : first_refusal schema (first_of_v 0 false) (version_1 keyed) ≡ Some (refused.UnjustifiedLimit 2)
  -- the facts of a Map of one column: the input's key determines the row, the input determines the output, and the output the input
  pub map_facts : (given_at schema (select (0 ∷ []) scan_t) 0 (with_uses [])).list
      ≡ record { from = member.Column 1 ∷ []; to = member.Row ∷ [] }
      ∷ record { from = member.Column 1 ∷ []; to = member.Column 0 ∷ [] }
      ∷ record { from = member.Column 0 ∷ []; to = member.Column 1 ∷ [] } ∷ []
