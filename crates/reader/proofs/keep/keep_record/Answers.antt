-- The record is put behind the others of its section, then it is counted.
use Rattle.std.proofs.Common.{◌+◌, ◌*◌, take, sym, ap₂, arith}
use Rattle.std.proofs.lemmas.List.{length-take-le}
use Rattle.kinds.specs.Table.{chain_count, chain_length}
use Rattle.kinds.proofs.Rows.{most_byte}
use Rattle.reader.specs.Taking.{part_size}
use Rattle.reader.proofs.Taking.{total_of}
use Rattle.reader.proofs.Keeping.{description_short, record_fits, rest_length, kept_made}
use Rattle.reader.proofs.keep.keep_record.Goals as goal

pub overflow_add-to : goal.overflow_add-to
overflow_add-to c = omega (arith, record_fits _ _ _ c.requires.0 c.requires.2 c.section_size.ensures)

pub overflow_mul-total : goal.overflow_mul-total
overflow_mul-total c = omega (arith, total_of _ _ _ c.chain_count.ensures c.chain_length.ensures)

pub slice_bounds-put_record-count : goal.slice_bounds-put_record-count
slice_bounds-put_record-count c = omega (arith, record_fits _ _ _ c.requires.0 c.requires.2 c.section_size.ensures)

pub slice_bounds-put_record-start : goal.slice_bounds-put_record-start
slice_bounds-put_record-start c = omega (arith, record_fits _ _ _ c.requires.0 c.requires.2 c.section_size.ensures)

pub slice_bounds-put_record-end-2 : goal.slice_bounds-put_record-end-2
slice_bounds-put_record-end-2 c =
    sym (length-take-le _ c.args.words.now (omega (arith, total_of _ _ _ c.chain_count.ensures c.chain_length.ensures, c.requires.3)))

pub put_record-size-requires : goal.put_record-size-requires
put_record-size-requires c =
    let to = part_size * c.args.place.section + c.section_size.result in
    (c.requires.0, omega (arith, rest_length to c.args.room.now, record_fits _ _ _ c.requires.0 c.requires.2 c.section_size.ensures))

pub overflow_add-room : goal.overflow_add-room
overflow_add-room c = omega (arith, c.requires.2, most_byte c.args.place.section)

pub returns : goal.returns
returns c =
    let k = c.args.place.section in
    let total = ap₂ ◌*◌ c.chain_count.ensures c.chain_length.ensures in
    let put = rw total at c.put_record-size.ensures in
    let short = description_short k c.requires.0 (take (chain_count k * chain_length k) c.args.words.now) in
    let fits = record_fits _ _ _ c.requires.0 c.requires.2 c.section_size.ensures in
    record {
      value = put.value;
      room_after = kept_made k c.args.place.slot c.section_size.result _ c.args.room.now _ c.section_size.ensures (omega (arith, short, fits)) put.out_after;
    }
