-- Values beside the trees that they stand for.
use Rattle.std.proofs.Common.{◌≡◌, ◌∙◌, sym, ap, ℕ, ◌<◌, ◌≤◌, List, [], ◌∷◌, ◌++◌, length, map, Some, None, option_map}
use Rattle.std.proofs.Common.{Vec, Global, true, false, refl, arith, rules}
use Rattle.std.proofs.Math.Nat.{le-max_left, le-max_right}
use Rattle.std.proofs.lemmas.List.{append-nil}
use Rattle.std.proofs.lemmas.Option.{none-some}
use Rattle.json.specs.declared.value.Value.{Value}
use Rattle.serde_json.specs.Data.{Data, null, boolean, number, string, array, object, Members, no_members, member, depth, items_depth}
use Rattle.serde_json.specs.Find.{get, as_array, as_object}
use Rattle.dl_source.proofs.Spelling.{array_of}
use Rattle.dl_terms.specs.Tree.{all}
use Rattle.dl_terms.specs.View.{trees_of, term_view, terms_view}
use Rattle.dl_terms.specs.declared.term.Term.{Term, the_lemmas}
use Rattle.dl_terms.specs.declared.term.Term.TheVariants.{All}
use Rattle.dl_documents.proofs.Findings.{one_found}
use Rattle.dl_documents.proofs.ObjectMembers.{Member, all_named, one_last, no_one}
use Rattle.dl_documents.specs.Inside.Trees.{tree_data, list_data, object_data}
use Rattle.dl_documents.specs.TermReading.{together, gathers, term_named, term_in, term_of, parts_in, parts_of}
use Rattle.dl_documents.specs.Reading.{one_of, one_in, two_of, two_in, three_of, three_in}

-- what is no object has no member
pub no_member : (name : List ℕ) (d : Data) → None ≡ as_object d → get name d ≡ None
no_member name null h = refl
no_member name (boolean b) h = refl
no_member name (number n) h = refl
no_member name (string s) h = refl
no_member name (array ds) h = refl
no_member name (object ms) h = cc

two_of-other : (vs : List (Value Global)) → (length vs ≡ 2 → ⊥) → two_of (list_data vs) ≡ None
two_of-other [] h = refl
two_of-other (a ∷ []) h = refl
two_of-other (a ∷ b ∷ []) h = absurd (h refl)
two_of-other (a ∷ b ∷ c ∷ vs) h = refl

-- a list of another length isn't one of two
pub no_two : (d : Data) (vs : List (Value Global)) → Some (list_data vs) ≡ as_array d → (length vs ≡ 2 → ⊥) → None ≡ two_in d
no_two d vs e h = rw (← e, two_of-other vs h) refl

three_of-other : (vs : List (Value Global)) → (length vs ≡ 3 → ⊥) → three_of (list_data vs) ≡ None
three_of-other [] h = refl
three_of-other (a ∷ []) h = refl
three_of-other (a ∷ b ∷ []) h = refl
three_of-other (a ∷ b ∷ c ∷ []) h = absurd (h refl)
three_of-other (a ∷ b ∷ c ∷ d ∷ vs) h = refl

-- a list of another length isn't one of three
pub no_three : (d : Data) (vs : List (Value Global)) → Some (list_data vs) ≡ as_array d → (length vs ≡ 3 → ⊥) → None ≡ three_in d
no_three d vs e h = rw (← e, three_of-other vs h) refl

-- the last of an object's members is the one where the others have its name
pub one_in_last : (d : Data) (ms others : List Member) (m : Member) → Some (object_data ms) ≡ as_object d → ms ≡ others ++ m ∷ []
    → all_named m.0.now others ≡ true → Some (m.0.now, tree_data m.1) ≡ one_in d
one_in_last d ms others m o is same = rw (← o, is, one_last others m same) refl

-- and where another has another name there is no one member
pub none_in : (d : Data) (ms others : List Member) (m : Member) → Some (object_data ms) ≡ as_object d → ms ≡ others ++ m ∷ []
    → all_named m.0.now others ≡ false → None ≡ one_in d
none_in d ms others m o is other = rw (← o, is, no_one others m other) refl

-- ---- terms

-- the term of an object is that of its one member
pub one_term : (d : Data) (name : List ℕ) (a : Data) → Some (name, a) ≡ one_in d → term_named name a (parts_in a) ≡ term_in d
one_term d name a h = rw (one_found d (name, a) (sym h)) refl

no_term_of : (ms : Members) → None ≡ one_of ms → None ≡ term_of ms
no_term_of no_members h = refl
no_term_of (member name d no_members) h = absurd (none-some (name, d) h)
no_term_of (member name d (member other e ms)) h = refl

-- what isn't an object with one member is no term
pub no_term : (d : Data) → None ≡ one_in d → None ≡ term_in d
no_term (object ms) h = no_term_of ms h
no_term d h = refl

-- an item and the rest nest as deep as their list at most
pub item_within : (v : Value Global) (vs : List (Value Global)) → depth (tree_data v) ≤ items_depth (list_data (v ∷ vs))
item_within v vs = le-max_left (depth (tree_data v)) (items_depth (list_data vs))

pub rest_within : (v : Value Global) (vs : List (Value Global)) → items_depth (list_data vs) ≤ items_depth (list_data (v ∷ vs))
rest_within v vs = le-max_right (depth (tree_data v)) (items_depth (list_data vs))

-- items nest less deep than their list
pub items_lower : (d : Data) (vs : List (Value Global)) → Some (list_data vs) ≡ as_array d → items_depth (list_data vs) < depth d
items_lower d vs e = rw (array_of d (list_data vs) (sym e)) (omega arith)

term_view-All : (v : Vec Term Global) → term_view (All v) ≡ all (terms_view v.items)
term_view-All v = search (rules, the_lemmas)

-- the terms that were read of all items
pub all_read : (vs : List (Value Global)) (parts : Vec Term Global) (rest : List (Value Global)) → length rest ≡ 0
    → option_map (λ ts. map term_view parts.items ++ ts) (together (parts_of (list_data rest))) ≡ together (parts_of (list_data vs))
    → Some (map term_view parts.items) ≡ together (parts_of (list_data vs))
all_read vs parts (v ∷ rest) none read = absurd (omega arith)
all_read vs parts [] none read = ap Some (sym (append-nil (map term_view parts.items))) ∙ read

-- parts make an all
pub all_made : (d : Data) (vs : List (Value Global)) (parts : Vec Term Global) → Some (list_data vs) ≡ as_array d
    → Some (map term_view parts.items) ≡ together (parts_of (list_data vs)) → Some (term_view (All parts)) ≡ gathers (parts_in d) d
all_made d vs parts e found = rw (array_of d (list_data vs) (sym e), ← found) (ap Some (term_view-All parts))

-- an item was read as no term
pub all_unread : (d : Data) (vs : List (Value Global)) → Some (list_data vs) ≡ as_array d → None ≡ together (parts_of (list_data vs))
    → None ≡ gathers (parts_in d) d
all_unread d vs e none = rw (array_of d (list_data vs) (sym e)) (ap (option_map (λ ts. all (trees_of ts))) none)
