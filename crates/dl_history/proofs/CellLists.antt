-- What a cell shows, with an end and without one.
use Rattle.std.proofs.Common.{◌≡◌, sym, ap, subst, ℕ, Bool, true, false, List, set, Option, Some, None, MatchBool, refl}
use Rattle.dl_desk.specs.declared.event.Ending.{Ending}
use Rattle.dl_history.specs.declared.cell_state.Mark.{Mark}
use Rattle.dl_history.specs.declared.cell_state.Mark.TheVariants.{Waiting, Ended, Refused}
use Rattle.dl_history.specs.Journal.{Cell, waiting, showing, refused, Refuses}
use Rattle.dl_history.specs.LoaderState.{ShowsEnd}

-- a cell that waits shows that it has no end
pub waiting_shows : (end : Option Ending) (x : Cell) → end ≡ None → x ≡ waiting → ShowsEnd end x.mark x.shows
waiting_shows end x none is = let P : Cell → Type 0 = λ y. ShowsEnd end y.mark y.shows in subst P (sym is) (none, refl)

-- a cell that took its outcome shows its end
pub ended_shows : (end : Ending) → ShowsEnd (Some end) (showing end).mark (showing end).shows
ended_shows end = (refl, refl)

-- and one that refused it keeps it, whatever else it shows
pub refused_shows : (end : Ending) (other : Option Ending) → ShowsEnd (Some end) (refused end other).mark (refused end other).shows
refused_shows end other = refl

-- a cell that shows an end shows an equal one
pub shows_same : (old new : Option Ending) (x : Cell) → new ≡ old → ShowsEnd old x.mark x.shows → ShowsEnd new x.mark x.shows
shows_same old new x same shows = let P : Option Ending → Type 0 = λ end. ShowsEnd end x.mark x.shows in subst P (sym same) shows

abbrev cell : Mark → Option Ending → Cell
cell mark shows = record { mark = mark; shows = shows }

open_at : (mark : Mark) (shows : Option Ending) → ShowsEnd None mark shows → cell mark shows ≡ waiting
open_at Waiting shows is = ap (cell Waiting) is.1
open_at Ended shows is = absurd (let bad : false ≡ true = is.0 in cc)
open_at (Refused kept) shows is = absurd (let bad : ◌≡◌ {A = Option Ending} None (Some kept) = is in cc)

-- a cell that shows that it has no end waits
pub open_waits : (x : Cell) → ShowsEnd None x.mark x.shows → x ≡ waiting
open_waits x shows = open_at x.mark x.shows shows

-- the cells after one was given its end, whether it took it or refused it
pub gets_end : (took : Bool) (old new : List Cell) (c : ℕ) (end : Ending) → MatchBool took (new ≡ set old c (showing end)) (Refuses old new c end)
    → (x : Cell) × (new ≡ set old c x) × ShowsEnd (Some end) x.mark x.shows
gets_end true old new c end is = (showing end, is, ended_shows end)
gets_end false old new c end is = (refused end is.0, is.1, refused_shows end is.0)
