use Rattle.dl_documents.proofs.OverDatabase.{lacks_none, script_lacks}
use Rattle.dl_documents.proofs.head.lacks_tables.Goals as goal
use Rattle.dl_documents.proofs.head.lacks_tables.Goals.{then-is_none, else-is_none}

pub returns-else-not-is_script : goal.returns-else-not-is_script
returns-else-not-is_script c =
    let top = c.args.top.now in
    elim c.if-is_none.branch [
      | then-is_none w ↦ script_lacks top c.if-is_none.value c.is_none.result w.is_script.result c.requires c.is_none.ensures w.is_script.ensures w.value-is
          c.if-not-is_script.false
      | else-is_none w ↦ lacks_none top c.if-is_none.value c.is_none.result c.requires c.is_none.ensures w.if-is_none.false c.if-not-is_script.false
    ]
