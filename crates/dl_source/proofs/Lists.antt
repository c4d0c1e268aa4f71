-- Reading a list item by item, each moved out of it.
use Rattle.std.proofs.Common.{◌≡◌, List, [], ◌∷◌, ◌++◌, Option, Some, None, Err, option_map, option_and_then, length, ap, sym, ◌∙◌, refl, arith}
use Rattle.std.proofs.Common.{append_assoc, append-nil}
use Rattle.serde_json.specs.Data.{Data}
use Rattle.serde_json.specs.View.{view, items_view}
use Rattle.serde_json.specs.declared.value.Value.{Value}
use Rattle.dl_source.specs.declared.fault.TableFault.{TableFault}
use Rattle.dl_source.specs.declared.fault.TableFault.TheVariants.{Shape, BadKey, TextTooLong, NotWhole, DuplicateTable, DuplicateKey, OutOfMemory}
use Rattle.dl_source.specs.Inside.Reading.{Reads, after, each_in}

pub nothing_left : {X : Type 0} (xs : List X) → length xs ≡ 0 → xs ≡ []
nothing_left [] h = refl
nothing_left (x ∷ xs) h = absurd (omega arith)

module _ {X : Type 0} (read : Data → Option X) where
  after_one : (front : List X) (x : X) (o : Option (List X)) → after (front ++ x ∷ []) o ≡ after front (option_map (λ xs. x ∷ xs) o)
  after_one front x None = refl
  after_one front x (Some xs) = ap Some (append_assoc front (x ∷ []) xs)

  -- what follows an item that was looked into
  abbrev rest_after : List X → List Value → Option X → Option (List X)
  rest_after front vs o = after front (option_and_then (λ x. option_map (λ xs. x ∷ xs) (each_in read (items_view vs))) o)

  module _ (front : List X) (v : Value) (vs all : List Value) (r : Option (List X)) (is : all ≡ v ∷ vs) (was : after front (each_in read (items_view all)) ≡ r) where
    seen : rest_after front vs (read (view v)) ≡ r
    seen = sym (ap (λ l. after front (each_in read (items_view l))) is) ∙ was

    -- the next item was read
    pub read_more : (x : X) → read (view v) ≡ Some x → after (front ++ x ∷ []) (each_in read (items_view vs)) ≡ r
    read_more x got = after_one front x (each_in read (items_view vs)) ∙ sym (ap (rest_after front vs) got) ∙ seen

    -- the next item can't be read
    pub read_none : read (view v) ≡ None → r ≡ None
    read_none got = sym seen ∙ ap (rest_after front vs) got

  -- no item is left
  pub read_all : (front : List X) (all : List Value) (r : Option (List X)) → all ≡ [] → after front (each_in read (items_view all)) ≡ r → r ≡ Some front
  read_all front all r is was = sym was ∙ ap (λ l. after front (each_in read (items_view l))) is ∙ ap Some (append-nil front)

-- where a part can't be read for a fault, neither can the whole
pub also_refused : {T U X Y : Type 0} (f : TableFault) (s : T → X) (u : U → Y) (o : Option X) (p : Option Y) → (o ≡ None → p ≡ None) → Reads (Err f) s o → Reads (Err f) u p
also_refused Shape s u o p there h = there h
also_refused BadKey s u o p there h = h
also_refused TextTooLong s u o p there h = h
also_refused NotWhole s u o p there h = h
also_refused DuplicateTable s u o p there h = h
also_refused DuplicateKey s u o p there h = h
also_refused OutOfMemory s u o p there h = tt
