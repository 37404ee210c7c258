-- The places are written first, and then what ends the line.
use Rattle.std.proofs.Common.{rules, sym, length-take-le}
use Rattle.octets.specs.Append.{◌⊕◌}
use Rattle.sink.specs.laws.Sink.{◌▷◌}
use Rattle.streams.proofs.SentLaws.{front_sent, front_of_more, sent_behind}
use Rattle.split_log.specs.Line.{places}
use Rattle.split_log.proofs.LineLaws.{places_inside, places_whole}
use Rattle.split_log.proofs.say.Goals as goal

pub slice_bounds-text-end : goal.slice_bounds-text-end
slice_bounds-text-end g c = places_inside c.args.from c.args.to (search rules) (c.put_digits-first.ensures ▷ (c.put_all-space.ensures ▷ c.put_digits-second.ensures))

pub slice_bounds-write_full-end : goal.slice_bounds-write_full-end
slice_bounds-write_full-end g c = sym (length-take-le _ _ (places_inside c.args.from c.args.to (search rules) (c.put_digits-first.ensures ▷ (c.put_all-space.ensures ▷ c.put_digits-second.ensures))))

pub returns-in_err-write_full : goal.returns-in_err-write_full
unfolding ◌⊕◌
returns-in_err-write_full g c =
    let e = places_whole c.args.from c.args.to (search rules) (c.put_digits-first.ensures ▷ (c.put_all-space.ensures ▷ c.put_digits-second.ensures)) in
    front_sent _ _ c.from_residual.result (places c.args.from c.args.to ⊕ c.args.end.now) c.from_residual.ensures.0
    (front_of_more _ _ (places c.args.from c.args.to) c.args.end.now (rw e at c.in_err-write_full.ensures))

pub returns : goal.returns
unfolding ◌⊕◌
returns g c =
    let e = places_whole c.args.from c.args.to (search rules) (c.put_digits-first.ensures ▷ (c.put_all-space.ensures ▷ c.put_digits-second.ensures)) in
    sent_behind c.write_full-2.result _ _ _ (places c.args.from c.args.to) c.args.end.now (rw e at c.in_ok-write_full.ensures) c.write_full-2.ensures
