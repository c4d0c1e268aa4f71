-- Findings taken out of their document, as the findings that they spell.
use Rattle.std.specs.Prelude.{Option, string_bytes}
use Rattle.serde_json.specs.Data.{Data}
use Rattle.serde_json.specs.View.{view}
use Rattle.dl_source.specs.declared.tables.Finding.{Finding}
use Rattle.dl_source.specs.declared.tables.Finding.TheVariants as finding
use Rattle.dl_source.specs.declared.listed.Listed.{Listed}
use Rattle.dl_source.specs.declared.listed.Listed.TheVariants as listed
use Rattle.dl_source.specs.declared.listed.Kind.{Kind}
use Rattle.dl_source.specs.declared.listed.Kind.TheVariants as kind
use Rattle.dl_source.specs.Spelling.{row_of, error_of, break_text_of}

abbrev pub spelled : Listed → Finding
spelled (listed.Row v) = finding.Row (view v)
spelled (listed.Error t) = finding.Error (string_bytes t)
spelled (listed.Break t) = finding.Break (string_bytes t)

-- what stands beside the id in a list of this kind
abbrev pub finding_of : Kind → Data → Option Finding
finding_of kind.Row = row_of
finding_of kind.Error = error_of
finding_of kind.Break = break_text_of
