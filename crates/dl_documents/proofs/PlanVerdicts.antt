-- The verdicts on plan files.
use Rattle.std.proofs.Common.{◌≡◌, inl, inr, ℕ, ◌<◌, ◌≤◌, List, length, map, Bool, false, codes, Some, None, refl, sym, ap, subst, ◌∙◌, arith}
use Rattle.std.proofs.Common.{true≢false, if◌then◌else◌}
use Rattle.std.proofs.lemmas.List.{length-map}
use Rattle.std.proofs.lemmas.Option.{none-some, same_Some}
use Rattle.std.specs.List.{AllByRecursion, slice_get}
use Rattle.serde_json.specs.Data.{Data, array, Items}
use Rattle.serde_json.specs.Events.{items_len}
use Rattle.serde_json.specs.Find.{get_item, as_array}
use Rattle.serde_json.specs.View.{items_of}
use Rattle.dl_values.specs.declared.fault.LimitFault.TheVariants.{BatchLimit, CellLimit, CallLimit}
use Rattle.dl_source.specs.Faults as table
use Rattle.dl_source.specs.Tables.{Tables}
use Rattle.dl_source.specs.declared.table_number.TableNumber.{TableNumber}
use Rattle.dl_source.specs.declared.fault.TableFault.{TableFault}
use Rattle.dl_documents.specs.Document.{forms_of, has_only_known, is_script, items_at, list_name}
use Rattle.dl_documents.specs.Faults.{IsBadTop, HasStrange, LacksList, LacksTables, HasOtherCount}
use Rattle.dl_documents.specs.Faults.{HasNoPlan, HasNoNumber, HasNoNumbers, IsNoStep, IsBadCall, IsPlanAt, IsStepAt, InTables}
use Rattle.dl_documents.specs.Faults.{IsBadStep, IsDeepStep, IsLongPlan, IsBadTable, Causes, number, place, IsEarlier, IsLeast}
use Rattle.dl_documents.specs.Inside.Places.{IsFirst, IsFirstIn}
use Rattle.dl_documents.specs.Inside.Results.{HasHead}
use Rattle.dl_documents.specs.Inside.PlanFiles.{row_tree, rows_tree, HasPlans, AreRead, IsHigh, AreLow, AreFew, AreMany, Fit, IsFirstBadStep}
use Rattle.dl_documents.specs.Inside.PlanFiles.{IsRefusal, AreTables}
use Rattle.dl_documents.specs.Inside.OwnLimits.{IsRefusedNumber}
use Rattle.dl_documents.specs.Tables.{TableCauses, IsTableFault}
use Rattle.dl_documents.specs.Steps.{StepTree, eval, step_tree, IsPlanStep, IsLow, most_steps}
use Rattle.dl_documents.specs.declared.fault.PlanFault.{PlanFault}
use Rattle.dl_documents.specs.declared.fault.PlanFault.TheVariants.{Shape, TooDeep, TooManySteps, Table}
use Rattle.dl_documents.specs.declared.head.Head.{Head}
use Rattle.dl_documents.specs.declared.head.Version.{Version}
use Rattle.dl_documents.specs.StepReading.{step_in}
use Rattle.dl_documents.proofs.KnownMembers.{no_list}
use Rattle.dl_documents.proofs.ListSpelling.{get_item-items_of, items_len-items_of, all_at, from_item, item_made}
use Rattle.dl_documents.proofs.Order.{Clear, clear_version, clear_top, clear_calls, clear_steps, clear_heights, clear_counts, clear_tables, least_of}
use Rattle.dl_documents.proofs.LimitVerdicts.{least_limit}
use Rattle.dl_documents.proofs.OwnNumbers.{tables_only}
use Rattle.dl_documents.proofs.Versions.{one_version}
use Rattle.dl_documents.proofs.StepLaws.{step_again}
use Rattle.dl_documents.proofs.Heights.{not_low}

-- ---- the top

-- the list that a plan file's plans are
list_at : (d : Data) → is_script d ≡ false → items_at (list_name d) d ≡ items_at (codes "plans") d
list_at d kind = ap (λ (b : Bool). items_at (if b then codes "calls" else codes "plans") d) kind

module _ (d : Data) (given : Head) (rows : List (List Data)) (tree : Data) (kind : is_script d ≡ false) (head : HasHead d given)
    (top : HasPlans d rows tree) where
  same_items : (ds : Items) → items_at (codes "plans") d ≡ Some ds → rows_tree rows ≡ ds
  same_items ds e = same_Some (rows_tree rows) ds (sym top.list ∙ e)

  counted : items_len (rows_tree rows) ≡ length rows
  counted = items_len-items_of (map row_tree rows) ∙ length-map rows row_tree

  -- item m of the plans is one of the lists
  row_at : (ds : Items) (m : ℕ) (plan : Data) → items_at (codes "plans") d ≡ Some ds → get_item m ds ≡ Some plan
      → (row : List Data) × (slice_get rows m ≡ Some row) × (plan ≡ row_tree row)
  row_at ds m plan e there =
      let here : slice_get (map row_tree rows) m ≡ Some plan = sym (get_item-items_of (map row_tree rows) m) ∙ (ap (get_item m) (same_items ds e) ∙ there) in
      from_item row_tree rows m plan here

  no_other : (row : List Data) (plan : Data) → plan ≡ row_tree row → as_array plan ≡ None → ⊥
  no_other row plan e none = none-some (items_of row) (sym none ∙ ap as_array e)

  top_passes : IsBadTop d → ⊥
  top_passes (HasStrange v is e) =
      true≢false (sym head.members ∙ (ap (λ (u : Version). has_only_known u d) (one_version d given.version v head.version is) ∙ e))
  top_passes (LacksList e) = none-some (rows_tree rows) (sym e ∙ (list_at d kind ∙ top.list))
  top_passes (LacksTables k e) = none-some tree (sym e ∙ top.tables)
  top_passes (HasOtherCount ds k e other) = other (rw (sym (ap items_len (same_items ds e)) ∙ counted) top.count)
  top_passes (HasNoPlan ds m plan k e there none) = let p = row_at ds m plan e there in no_other p.0 plan p.2 none
  top_passes (HasNoNumber BatchLimit e) = none-some given.numbers.max_batch (sym e ∙ head.numbers.batch)
  top_passes (HasNoNumber CellLimit e) = none-some given.numbers.max_cells (sym e ∙ head.numbers.cells)
  top_passes (HasNoNumber CallLimit e) = none-some given.numbers.max_calls (sym e ∙ head.numbers.calls)
  top_passes (HasNoNumbers v k is e) = true≢false (sym k ∙ kind)

  no_call : (m : ℕ) → IsBadCall d m → ⊥
  no_call m h = no_list d false given.version (codes "calls") kind head.members refl h.items h.list

  clear_6 : Clear d 6
  clear_6 = clear_calls d (clear_top d (clear_version d given.version head.version) top_passes) no_call

  -- ---- steps

  row_of : (m : ℕ) (steps : Items) → IsPlanAt d m steps → (row : List Data) × (slice_get rows m ≡ Some row) × (steps ≡ items_of row)
  row_of m steps h =
      let p = row_at h.plans m (array steps) h.list h.there in
      (p.0, p.1, same_Some steps (items_of p.0) (ap as_array p.2))

  step_of : (m s : ℕ) (step : Data) → IsStepAt d m s step → (row : List Data) × (slice_get rows m ≡ Some row) × (slice_get row s ≡ Some step)
  step_of m s step h =
      let p = row_of m h.steps h.plan in
      (p.0, p.1, sym (get_item-items_of p.0 s) ∙ (ap (get_item s) (sym p.2) ∙ h.there))

  plan_at : (m : ℕ) (row : List Data) → slice_get rows m ≡ Some row → IsPlanAt d m (items_of row)
  plan_at m row there = record {
    plans = rows_tree rows;
    list = top.list;
    there = get_item-items_of (map row_tree rows) m ∙ item_made row_tree rows m row there;
  }

  step_at : (m s : ℕ) (row : List Data) (step : Data) → slice_get rows m ≡ Some row → slice_get row s ≡ Some step → IsStepAt d m s step
  step_at m s row step there item = record { steps = items_of row; plan = plan_at m row there; there = get_item-items_of row s ∙ item }

  -- what is earlier than the first that is bad isn't bad
  none_earlier : {A : Type 0} (Bad : A → Type 0) (xss : List (List A)) (p s m t : ℕ) (row : List A) (x : A) → IsFirstIn Bad xss p s
      → IsEarlier (m, t) (p, s) → slice_get xss m ≡ Some row → slice_get row t ≡ Some x → Bad x → ⊥
  none_earlier Bad xss p s m t row x first (inl less) there item bad = first.before m row less there (t, x, item, bad)
  none_earlier {A} Bad xss p s m t row x first (inr more) there item bad =
      let same : m ≡ p = more.0 in
      let here : slice_get xss p ≡ Some row = ap (slice_get xss) (sym same) ∙ there in
      let one : first.row ≡ row = same_Some first.row row (sym first.there ∙ here) in
      first.in_row.first t x more.1 (ap (λ (r : List A). slice_get r t) one ∙ item) bad

  earlier_shape : (p s : ℕ) → IsFirstIn (IsNoStep (forms_of d)) rows p s → (g : PlanFault) → number g ≡ 6 → IsEarlier (place g) (p, s) → Causes d g → ⊥
  earlier_shape p s first (Shape m t) same early c =
      let q = step_of m t c.0 c.1 in
      none_earlier (IsNoStep (forms_of d)) rows p s m t q.0 c.0 first early q.1 q.2 c.2
  earlier_shape p s first g same early c = omega arith

  shape_applies : (p s : ℕ) → IsFirstIn (IsNoStep (forms_of d)) rows p s → IsBadStep d p s
  shape_applies p s first = (first.in_row.item, step_at p s first.row first.in_row.item first.there first.in_row.there, first.in_row.bad)

  -- the first tree that is no step
  pub least_shape : (f : PlanFault) → IsFirstBadStep (forms_of d) rows f → IsLeast (Causes d) f
  least_shape f h = rw h.names (least_of d (Shape h.plan h.step) (shape_applies h.plan h.step h.first) clear_6 (earlier_shape h.plan h.step h.first))

  -- ---- plans that were read

  module _ (plans : List (List StepTree)) (read : AreRead (forms_of d) rows plans) where
    plan_of : (m : ℕ) (row : List Data) → slice_get rows m ≡ Some row
        → (plan : List StepTree) × (slice_get plans m ≡ Some plan) × (row ≡ map step_tree plan) × AllByRecursion (IsPlanStep (forms_of d)) plan
    plan_of m row there =
        let p = from_item (map step_tree) plans m row (ap (λ (xs : List (List Data)). slice_get xs m) (sym read.trees) ∙ there) in
        (p.0, p.1, p.2, all_at (AllByRecursion (IsPlanStep (forms_of d))) plans m p.0 read.steps p.1)

    row_of_plan : (m : ℕ) (plan : List StepTree) → slice_get plans m ≡ Some plan → slice_get rows m ≡ Some (map step_tree plan)
    row_of_plan m plan there = ap (λ (xs : List (List Data)). slice_get xs m) read.trees ∙ item_made (map step_tree) plans m plan there

    -- a tree at a place is that of the step there
    read_step : (m s : ℕ) (step : Data) → IsStepAt d m s step
        → (plan : List StepTree) × (y : StepTree) × (slice_get plans m ≡ Some plan) × (slice_get plan s ≡ Some y) × (step ≡ step_tree y) × IsPlanStep (forms_of d) y
    read_step m s step h =
        let p = step_of m s step h in
        let q = plan_of m p.0 p.1 in
        let r = from_item step_tree q.0 s step (ap (λ (xs : List Data). slice_get xs s) (sym q.2) ∙ p.2) in
        (q.0, r.0, q.1, r.1, r.2, all_at (IsPlanStep (forms_of d)) q.0 s r.0 q.3 r.1)

    steps_pass : (m s : ℕ) → IsBadStep d m s → ⊥
    steps_pass m s h = let p = read_step m s h.0 h.1 in h.2 p.1 p.5 p.4

    clear_7 : Clear d 7
    clear_7 = clear_steps d clear_6 steps_pass

    -- ---- heights

    -- a step has one tree
    one_step : (x y : StepTree) → IsPlanStep (forms_of d) x → IsPlanStep (forms_of d) y → step_tree x ≡ step_tree y → x ≡ y
    one_step x y a b e = same_Some x y (sym (step_again (forms_of d) x a) ∙ (ap (step_in (forms_of d)) e ∙ step_again (forms_of d) y b))

    high_step : (m s : ℕ) → IsDeepStep d m s
        → (plan : List StepTree) × (y : StepTree) × (slice_get plans m ≡ Some plan) × (slice_get plan s ≡ Some y) × IsHigh y
    high_step m s h =
        let p = read_step m s h.0 h.1 in
        let same : eval h.2.term ≡ p.1 = one_step (eval h.2.term) p.1 h.2.is p.5 (sym h.2.spelled ∙ p.4) in
        (p.0, p.1, p.2, p.3, rw (← same) h.2.high)

    deep : (m s : ℕ) (plan : List StepTree) (y : StepTree) → slice_get plans m ≡ Some plan → slice_get plan s ≡ Some y → IsHigh y → IsDeepStep d m s
    deep m s plan (eval t) there item high =
        let is : IsPlanStep (forms_of d) (eval t) = all_at (IsPlanStep (forms_of d)) plan s (eval t) (all_at (AllByRecursion (IsPlanStep (forms_of d))) plans m plan read.steps there) item in (
          step_tree (eval t),
          step_at m s (map step_tree plan) (step_tree (eval t)) (row_of_plan m plan there) (item_made step_tree plan s (eval t) item),
          record { term = t; is = is; spelled = refl; high = high },
        )
    deep m s plan y there item high = absurd high

    earlier_deep : (p s : ℕ) → IsFirstIn IsHigh plans p s → (g : PlanFault) → number g ≡ 7 → IsEarlier (place g) (p, s) → Causes d g → ⊥
    earlier_deep p s first (TooDeep m t) same early c =
        let q = high_step m t c in
        none_earlier IsHigh plans p s m t q.0 q.1 first early q.2 q.3 q.4
    earlier_deep p s first g same early c = omega arith

    least_deep : (p s : ℕ) → IsFirstIn IsHigh plans p s → IsLeast (Causes d) (TooDeep p s)
    least_deep p s first =
        least_of d (TooDeep p s) (deep p s first.row first.in_row.item first.there first.in_row.there first.in_row.bad) clear_7 (earlier_deep p s first)

    heights_pass : AllByRecursion AreLow plans → (m s : ℕ) → IsDeepStep d m s → ⊥
    heights_pass low m s h =
        let p = high_step m s h in
        not_low p.1 (all_at IsLow p.0 s p.1 (all_at AreLow plans m p.0 low p.2) p.3) p.4

    clear_8 : AllByRecursion AreLow plans → Clear d 8
    clear_8 low = clear_heights d clear_7 (heights_pass low)

    -- ---- numbers of steps

    long_plan : (m : ℕ) → IsLongPlan d m → (plan : List StepTree) × (slice_get plans m ≡ Some plan) × AreMany plan
    long_plan m h =
        let p = row_of m h.0 h.1 in
        let q = plan_of m p.0 p.1 in
        let size : items_len h.0 ≡ length q.0 =
        ap items_len p.2 ∙ (items_len-items_of p.0 ∙ (ap (λ (r : List Data). length r) q.2 ∙ length-map q.0 step_tree)) in
        let many : most_steps < items_len h.0 = h.2 in
        (q.0, q.1, rw size at many)

    long : (m : ℕ) (plan : List StepTree) → slice_get plans m ≡ Some plan → AreMany plan → IsLongPlan d m
    long m plan there many =
        let size : items_len (items_of (map step_tree plan)) ≡ length plan = items_len-items_of (map step_tree plan) ∙ length-map plan step_tree in
        (items_of (map step_tree plan), plan_at m (map step_tree plan) (row_of_plan m plan there), rw size many)

    earlier_long : (p : ℕ) → IsFirst AreMany plans p → (g : PlanFault) → number g ≡ 8 → IsEarlier (place g) (p, 0) → Causes d g → ⊥
    earlier_long p first (TooManySteps m) same (inl less) c = let q = long_plan m c in first.first m q.0 less q.1 q.2
    earlier_long p first (TooManySteps m) same (inr more) c = let k : 0 < 0 = more.1 in omega arith
    earlier_long p first g same early c = omega arith

    least_long : (p : ℕ) → AllByRecursion AreLow plans → IsFirst AreMany plans p → IsLeast (Causes d) (TooManySteps p)
    least_long p low first = least_of d (TooManySteps p) (long p first.item first.there first.bad) (clear_8 low) (earlier_long p first)

    counts_pass : AllByRecursion AreFew plans → (m : ℕ) → IsLongPlan d m → ⊥
    counts_pass few m h =
        let p = long_plan m h in
        let short : length p.0 ≤ most_steps = all_at AreFew plans m p.0 few p.1 in
        let many : most_steps < length p.0 = p.2 in
        omega arith

    clear_9 : Fit plans → Clear d 9
    clear_9 fit = clear_counts d (clear_8 fit.low) (counts_pass fit.few)

    -- ---- tables

    table_cause : (t : TableFault) → IsBadTable d t → TableCauses given.version tree t
    table_cause t h =
        let same : h.tree ≡ tree = same_Some h.tree tree (sym h.member ∙ top.tables) in
        subst (λ (v : Version). TableCauses v tree t) (one_version d h.version given.version h.is head.version)
        (subst (λ (e : Data). TableCauses h.version e t) same h.cause)

    earlier_table : (t : TableFault) → IsTableFault given.version tree t → (g : PlanFault) → number g ≡ 9 → IsEarlier (place g) (table.number t, 0)
        → Causes d g → ⊥
    earlier_table t least (Table u) same (inl less) c = least.least u less (table_cause u c)
    earlier_table t least (Table u) same (inr more) c = let k : 0 < 0 = more.1 in omega arith
    earlier_table t least g same early c = omega arith

    least_table : (t : TableFault) → Fit plans → IsTableFault given.version tree t → IsLeast (Causes d) (Table t)
    least_table t fit least =
        least_of d (Table t) (record { version = given.version; is = head.version; tree = tree; member = top.tables; cause = least.cause }) (clear_9 fit)
        (earlier_table t least)

    pub clear_10 : Fit plans → ((t : TableFault) → TableCauses given.version tree t → ⊥) → Clear d 10
    clear_10 fit lawful = clear_tables d (clear_9 fit) (λ t h. lawful t (table_cause t h))

    least_number : (tables : Tables) (ns : List TableNumber) (f : PlanFault) → Fit plans → AreTables given.version tree tables ns
        → IsRefusedNumber given.numbers ns f
        → IsLeast (Causes d) f
    least_number tables ns f fit are =
        least_limit d given.numbers ns (clear_10 fit are.lawful) head.numbers (InTables given.version tree tables kind head.version top.tables are.spelled)
        (tables_only d given.version tree tables ns kind head.version top.tables are.spelled) f

    -- ---- the first refusal of what was read

    pub least_refusal : (f : PlanFault) → IsRefusal plans tree given f → IsLeast (Causes d) f
    least_refusal f (inl (inl h)) = rw h.names (least_deep h.plan h.step h.first)
    least_refusal f (inl (inr h)) = rw h.names (least_long h.plan h.low h.first)
    least_refusal f (inr (inl h)) = rw h.refused.names (least_table h.refused.fault h.fit h.refused.least)
    least_refusal f (inr (inr h)) = least_number h.tables h.numbers f h.fit h.spelled h.refused
