use Rattle.std.proofs.Common.{◌<◌, length, refl}
use Rattle.dl_desk.specs.Inside.TableName.{place_of}
use Rattle.dl_desk.proofs.TablePlaces.{place_low, told-changed}
use Rattle.dl_desk.proofs.table_book.TableBook.renew.Goals as goal

pub returns : goal.returns
returns c =
    let low : place_of c.args.table.now < length c.self.inside.newest.items =
    place_low c.self.inside.newest.items c.args.table.now (rw (← c.self.view_is) at c.requires) in
    rw (← c.self.view_is) (record {
      limits = refl;
      newest = told-changed c.self.inside.newest.items c.args.table.now c.place.result c.index_mut.result.now c.index_mut.ensures.value c.args.newest
          c.replace.new.self
          c.place.ensures low c.replace.ensures;
      touched = refl;
    })
