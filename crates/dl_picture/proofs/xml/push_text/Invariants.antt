-- What was written, with the characters that are left, is the text as XML has it.
use Rattle.std.proofs.Common.{◌≡◌, ◌++◌, IsUtf8, chars, string_bytes}
use Rattle.std.specs.Prelude.{flat_map}
use Rattle.std.specs.Str.Iter.{chars_rest}
use Rattle.dl_picture.specs.Xml.{escaped, written}
use Rattle.dl_picture.proofs.xml.push_text.Given as goal

abbrev pub invariant-loop-c : goal.invariant-loop-c
invariant-loop-c l = IsUtf8 (chars_rest l.c-iterator)
    × (string_bytes l.out ++ flat_map written (chars (chars_rest l.c-iterator)) ≡ string_bytes l.fn.out ++ escaped l.fn.text)
