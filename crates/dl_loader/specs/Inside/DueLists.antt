-- The dues of cells as a list that there may not be.
use Rattle.std.specs.Prelude.{List, [], Option, Vec}
use Rattle.std.specs.Option.{option_map_or}
use Rattle.std.specs.Global.{Global}
use Rattle.dl_loader.specs.declared.dues.Due.{Due}

-- the dues that there are, in order: none without a list
abbrev pub due_list : Option (Vec Due Global) → List Due
due_list dues = option_map_or (λ v. v.items) dues []
