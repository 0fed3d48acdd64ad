-- Plans that go by peers alone are certified.
use Rattle.std.specs.Prelude.{◌≡◌, List, true, ⊤}
use Rattle.std.specs.List.{AllByRecursion}
use Rattle.wd_schema.specs.Tables.{TableRule}
use Rattle.wd_plan.specs.Fits.{fits}
use Rattle.wd_plan.specs.Plans.{PlanTree, Scan, Join, Over, Window, Limit}
use Rattle.wd_plan.specs.Settled.{is_by_peers}
use Rattle.wd_plan.specs.declared.window.Call.{Call}
use Rattle.wd_rules.specs.Rules.{is_whole_or_ties}
use Rattle.wd_analyse.specs.Analysis.{IsAnswer}
use Rattle.wd_analyse.specs.declared.analysis.Analysis.{Analysis}
use Rattle.wd_analyse.specs.declared.analysis.Analysis.TheVariants.{Certified, Open}

-- each call meets `peers`, and each limit `whole` or `ties`
abbrev pub GoByPeers : PlanTree → Type 0
GoByPeers (Scan table columns) = ⊤
GoByPeers (Join condition left right) = GoByPeers left × GoByPeers right
GoByPeers (Over (Window w) input) = GoByPeers input × AllByRecursion (λ (call : Call). is_by_peers call.frame call.function ≡ true) w.calls
GoByPeers (Over (Limit limit) input) = GoByPeers input × (is_whole_or_ties limit ≡ true)
GoByPeers (Over step input) = GoByPeers input

abbrev pub IsCertified : Analysis → Type 0
IsCertified (Certified certificate) = ⊤
IsCertified (Open reasons marks) = ⊥

-- the analysis of such a plan is a certificate
abbrev pub PeersAreCertified : Type 0
PeersAreCertified = (tables : List TableRule) (plan : PlanTree) (analysis : Analysis) → fits tables plan ≡ true → GoByPeers plan → IsAnswer tables plan analysis → IsCertified analysis
