-- What a handle owns.
use Rattle.std.specs.Prelude.{Bool, true, false}
use base.Fml.{Fml, ftrue}

-- what a place owns where it is filled, and nothing where it is not
abbrev pub owned_if : Bool → Fml → Fml
owned_if true owned = owned
owned_if false owned = ftrue
