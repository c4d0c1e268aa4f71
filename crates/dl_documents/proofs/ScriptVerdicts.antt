-- The verdicts on call scripts.
use Rattle.std.proofs.Common.{◌≡◌, inl, inr, ℕ, ◌<◌, List, map, Bool, true, codes, Some, refl, sym, ap, subst, ◌∙◌, arith, true≢false, if◌then◌else◌}
use Rattle.std.proofs.lemmas.Option.{none-some, same_Some}
use Rattle.std.specs.List.{slice_get}
use Rattle.serde_json.specs.Data.{Data, Items}
use Rattle.serde_json.specs.Find.{get_item}
use Rattle.serde_json.specs.View.{items_of}
use Rattle.dl_values.specs.declared.fault.LimitFault.TheVariants.{BatchLimit, CellLimit, CallLimit}
use Rattle.dl_source.specs.declared.fault.TableFault.{TableFault}
use Rattle.dl_source.specs.declared.table_number.TableNumber.{TableNumber}
use Rattle.dl_documents.specs.Document.{SpellsScript, IsOfVersion, forms_of, has_only_known, is_script, items_at, list_name}
use Rattle.dl_documents.specs.Faults.{IsBadTop, HasStrange, LacksList, LacksTables, HasOtherCount, HasNoPlan, HasNoNumber, HasNoNumbers}
use Rattle.dl_documents.specs.Faults.{IsNoCall, IsBadCall, IsPlanAt, GivesNumbers, InScript}
use Rattle.dl_documents.specs.Faults.{IsBadTable, Causes, number, place, IsEarlier, IsLeast}
use Rattle.dl_documents.specs.Inside.Places.{IsFirst}
use Rattle.dl_documents.specs.Inside.Results.{HasHead}
use Rattle.dl_documents.specs.Inside.Scripts.{AreCalls, IsFirstBadCall}
use Rattle.dl_documents.specs.Inside.OwnLimits.{AreAllLimits, IsRefusedNumber}
use Rattle.dl_documents.specs.OwnLimits.{version_by, own}
use Rattle.dl_documents.specs.Script.{call_tree, IsScriptCall}
use Rattle.dl_documents.specs.TableNumbers.{script_numbers}
use Rattle.dl_documents.specs.declared.fault.PlanFault.{PlanFault}
use Rattle.dl_documents.specs.declared.fault.PlanFault.TheVariants.{BadCall}
use Rattle.dl_documents.specs.declared.head.Head.{Head}
use Rattle.dl_documents.specs.declared.head.Version.{Version}
use Rattle.dl_documents.specs.declared.input.Script.{Script}
use Rattle.dl_desk.specs.declared.call.DeskCall.{DeskCall}
use Rattle.dl_documents.proofs.AsLimits.{are_inside}
use Rattle.dl_documents.proofs.KnownMembers.{unknown, no_list, no_plans, no_tables}
use Rattle.dl_documents.proofs.ListSpelling.{get_item-items_of, all_at, from_item}
use Rattle.dl_documents.proofs.Order.{Clear, clear_version, clear_top, clear_calls, clear_steps, clear_heights, clear_counts, clear_tables, no_cause, least_of}
use Rattle.dl_documents.proofs.LimitVerdicts.{least_limit, gives_limits, numbers_of, are_given, clear_given}
use Rattle.dl_documents.proofs.OwnNumbers.{script_only}
use Rattle.dl_documents.proofs.Versions.{one_version}

-- the list that a script's calls are
list_is : (d : Data) → is_script d ≡ true → list_name d ≡ codes "calls"
list_is d kind = ap (λ (b : Bool). if b then codes "calls" else codes "plans") kind

list_at : (d : Data) → is_script d ≡ true → items_at (list_name d) d ≡ items_at (codes "calls") d
list_at d kind = ap (λ name. items_at name d) (list_is d kind)

module _ (d : Data) (h : Head) (ds : List Data) (ns : List TableNumber) (kind : is_script d ≡ true) (head : HasHead d h)
    (list : items_at (codes "calls") d ≡ Some (items_of ds)) (given : script_numbers h.version d ≡ Some ns) where
  top_passes : IsBadTop d → ⊥
  top_passes (HasStrange v is e) =
      true≢false (sym head.members ∙ (ap (λ (u : Version). has_only_known u d) (one_version d h.version v head.version is) ∙ e))
  top_passes (LacksList e) = none-some (items_of ds) (sym (sym (list_at d kind) ∙ e) ∙ list)
  top_passes (LacksTables k e) = true≢false (sym kind ∙ k)
  top_passes (HasOtherCount is k e other) = true≢false (sym kind ∙ k)
  top_passes (HasNoPlan is m plan k e there none) = true≢false (sym kind ∙ k)
  top_passes (HasNoNumber BatchLimit e) = none-some h.numbers.max_batch (sym e ∙ head.numbers.batch)
  top_passes (HasNoNumber CellLimit e) = none-some h.numbers.max_cells (sym e ∙ head.numbers.cells)
  top_passes (HasNoNumber CallLimit e) = none-some h.numbers.max_calls (sym e ∙ head.numbers.calls)
  top_passes (HasNoNumbers v k is e) =
      none-some ns (sym e ∙ (ap (λ (u : Version). script_numbers u d) (one_version d v h.version is head.version) ∙ given))

  clear_5 : Clear d 5
  clear_5 = clear_top d (clear_version d h.version head.version) top_passes

  -- ---- calls

  -- a bad call is one of the trees
  bad_item : (m : ℕ) → IsBadCall d m → (t : Data) × (slice_get ds m ≡ Some t) × IsNoCall t
  bad_item m c =
      let same : items_of ds ≡ c.items = same_Some (items_of ds) c.items (sym list ∙ c.list) in
      let there : slice_get ds m ≡ Some c.bad.tree = sym (get_item-items_of ds m) ∙ (ap (get_item m) same ∙ c.bad.there) in
      (c.bad.tree, there, c.bad.no_call)

  call_applies : (m : ℕ) → IsFirst IsNoCall ds m → IsBadCall d m
  call_applies m c = record {
    items = items_of ds;
    list = list;
    bad = record { tree = c.item; there = get_item-items_of ds m ∙ c.there; no_call = c.bad };
  }

  earlier_call : (m : ℕ) → IsFirst IsNoCall ds m → (g : PlanFault) → number g ≡ 5 → IsEarlier (place g) (m, 0) → Causes d g → ⊥
  earlier_call m is (BadCall k) same (inl less) c = let p = bad_item k c in is.first k p.0 less p.1 p.2
  earlier_call m is (BadCall k) same (inr more) c = let k : 0 < 0 = more.1 in omega arith
  earlier_call m is g same early c = omega arith

  -- the first bad call
  pub least_call : (f : PlanFault) → IsFirstBadCall ds f → IsLeast (Causes d) f
  least_call f is = rw is.names (least_of d (BadCall is.call) (call_applies is.call is.first) clear_5 (earlier_call is.call is.first))

  -- ---- limits

  calls_pass : (cs : List DeskCall) → AreCalls ds cs → (m : ℕ) → IsBadCall d m → ⊥
  calls_pass cs are m c =
      let p = bad_item m c in
      let q = from_item call_tree cs m p.0 (ap (λ ts. slice_get ts m) (sym are.trees) ∙ p.1) in
      p.2 q.0 (all_at IsScriptCall cs m q.0 are.calls q.1) q.2

  no_plan : (m : ℕ) (steps : Items) → IsPlanAt d m steps → ⊥
  no_plan m steps is = no_list d true h.version (codes "plans") kind head.members (no_plans h.version) is.plans is.list

  tables_pass : (t : TableFault) → IsBadTable d t → ⊥
  tables_pass t bad = none-some bad.tree (sym (unknown d true h.version (codes "tables") kind head.members (no_tables h.version)) ∙ bad.member)

  pub clear_10 : (cs : List DeskCall) → AreCalls ds cs → Clear d 10
  clear_10 cs are =
      clear_tables d (clear_counts d (clear_heights d (clear_steps d (clear_calls d clear_5 (calls_pass cs are))
      (λ m s c. no_plan m c.1.steps c.1.plan)) (λ m s c. no_plan m c.1.steps c.1.plan)) (λ m c. no_plan m c.0 c.1)) tables_pass

  gives : GivesNumbers d ns
  gives = InScript h.version kind head.version given

  -- the first number that is no limit
  pub least_script_limit : (cs : List DeskCall) (f : PlanFault) → AreCalls ds cs → IsRefusedNumber h.numbers ns f → IsLeast (Causes d) f
  least_script_limit cs f are =
      least_limit d h.numbers ns (clear_10 cs are) head.numbers gives (script_only d h.version ns kind head.version given) f

  -- ---- what is spelled

  pub spells : (s : Script) → AreCalls ds s.calls → AreAllLimits h ns (s.limits, s.table_limits) → SpellsScript d s
  spells s are limits =
      let v : version_by s.table_limits ≡ h.version = limits.own.same in
      record {
        kind = kind;
        version = subst (IsOfVersion d) (sym v) head.version;
        members = subst (λ (u : Version). has_only_known u d ≡ true) (sym v) head.members;
        list = list ∙ ap (λ ts. Some (items_of ts)) are.trees;
        calls = are.calls;
        limits = gives_limits d h.numbers s.limits head.numbers limits.top;
        own = record { given = ns; numbers = subst (λ (u : Version). script_numbers u d ≡ Some ns) (sym v) given; limits = limits.own.limits };
      }

-- nothing is refused of what spells a script
pub script_passes : (d : Data) (s : Script) → SpellsScript d s → (f : PlanFault) → Causes d f → ⊥
script_passes d s spells =
    let v : Version = version_by s.table_limits in
    let h : Head = record { version = v; forms = forms_of d; numbers = numbers_of s.limits } in
    let head : HasHead d h = record {
      version = spells.version;
      forms = refl;
      members = spells.members;
      numbers = are_given d s.limits spells.limits;
    } in
    let ns : List TableNumber = spells.own.given in
    let low : Clear d 10 = clear_10 d h (map call_tree s.calls) ns spells.kind head spells.list spells.own.numbers s.calls
    (record { trees = refl; calls = spells.calls }) in
    no_cause d (clear_given d s.limits ns spells.limits (script_only d v ns spells.kind spells.version spells.own.numbers)
    (are_inside ns (own s.table_limits) spells.own.limits) low)
