-- What a call does to the handle that C keeps.
use Rattle.std.specs.Prelude.{◌≡◌, true, false}
use Rattle.dl_desk.specs.Service.{Service}
use Rattle.dl_loader.specs.SerialLoader.{Serial}
use Rattle.dl_loader_c.specs.declared.handle.Handle.{Handle}
use Rattle.dl_loader_c.specs.Contents.{OnLoader}
use Rattle.dl_loader_c.specs.Named.{service_by}

-- An open handle stays open, with what it has under its name.
abbrev pub Stays : Handle → Handle → Type 0
Stays old new = old.is_open ≡ true → (new.is_open ≡ true) × (new.held.name ≡ old.held.name)

-- The call is made on the loader of an open handle; if the handle has its history alone, the answer says so.
abbrev pub OnOpen : Handle → Handle → (Service → Serial → Serial → Type 0) → Type 0 → Type 0
OnOpen old new Tells Closed = old.is_open ≡ true → OnLoader old.held.kept new.held.kept (Tells (service_by old.held.name)) Closed

-- The call on a closed handle has its answer, and leaves the handle.
abbrev pub OnClosed : Handle → Handle → Type 0 → Type 0
OnClosed old new Answer = old.is_open ≡ false → (new ≡ old) × Answer
