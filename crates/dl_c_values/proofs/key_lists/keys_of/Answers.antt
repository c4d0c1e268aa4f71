use Rattle.std.proofs.Common.{◌<◌, length, inl, rules}
use Rattle.std.proofs.lemmas.Result.{err_from_is_err_and}
use Rattle.dl_c_values.specs.declared.codes.TheConstants.{BAD_KEY}
use Rattle.dl_values.specs.KeyTexts.{IsKeyText}
use Rattle.dl_c_values.specs.KeyLists.{front_key, key_width}
use Rattle.dl_c_values.proofs.Cuts.{cut_more, cut_fault, cut_left, cut_are_parts}
use Rattle.dl_c_values.proofs.key_lists.keys_of.Goals as goal

pub loop-key_lengths-preserved : goal.loop-key_lengths-preserved
loop-key_lengths-preserved c =
    rw (c.in-Ok-push.ensures.items, c.in_ok-key.ensures.key, c.in_ok-key.ensures.rest)
    (cut_more key_width front_key IsKeyText BAD_KEY c.args.texts.now c.args.lengths.now c.loop-key_lengths.key_lengths-index c.loop-key_lengths.keys.items
    c.loop-key_lengths.rest.now _ c.loop-key_lengths-test.true c.loop-key_lengths.invariant c.in_ok-key.ensures.is_key c.in_ok-key.ensures.room)

pub returns-in_err-key-clause-fault : goal.returns-in_err-key-clause-fault
returns-in_err-key-clause-fault c =
    let p = err_from_is_err_and c.from_residual.result c.from_residual.ensures.1 in
    rw (p.1, p.2)
    (cut_fault key_width front_key IsKeyText BAD_KEY c.args.texts.now c.args.lengths.now c.loop-key_lengths.key_lengths-index c.loop-key_lengths.keys.items
    c.loop-key_lengths.rest.now _ c.loop-key_lengths-test.true _ c.loop-key_lengths.invariant c.in_err-key.ensures.fault)

pub returns-then-is_empty-clause-are_keys : goal.returns-then-is_empty-clause-are_keys
returns-then-is_empty-clause-are_keys c = cut_are_parts key_width front_key IsKeyText BAD_KEY c.args.texts.now c.args.lengths.now
    c.loop-key_lengths.key_lengths-index c.loop-key_lengths.keys.items c.loop-key_lengths.rest.now c.loop-key_lengths-test.false
    c.loop-key_lengths.invariant

pub returns-else-is_empty-clause-fault : goal.returns-else-is_empty-clause-fault
returns-else-is_empty-clause-fault c =
    let left : 0 < length c.loop-key_lengths.rest.now = search rules in
    inl (cut_left key_width front_key IsKeyText BAD_KEY c.args.texts.now c.args.lengths.now c.loop-key_lengths.key_lengths-index c.loop-key_lengths.keys.items
    c.loop-key_lengths.rest.now c.loop-key_lengths-test.false c.loop-key_lengths.invariant left)
