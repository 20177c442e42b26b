-- All definitions of the rules under one name, for what is checked by computing: `unfolding rules`.
use Rattle.word.specs.Word.{bit_at}
use Rattle.rules.specs.Numbers.{after, distance, room_ok, size_ok, flags_ok, reason_ok}
use Rattle.lists.specs.Lists.{lead, slide, pack, any, sum, update}
use Rattle.promise.specs.Outcome.{unless, first_of, left, within, on_paper}
use Rattle.promise.specs.Promise.{told}
use Rattle.rules.specs.Numbered.{number as number_of, refusal}
use Rattle.fields.specs.Fields.{number, spell, joined, parted}
use Rattle.fields.specs.Fields as fields
use Rattle.rules.specs.Receiver as receiver
use Rattle.rules.specs.Receiving as receiving
use Rattle.rules.specs.Sender as sender
use Rattle.rules.specs.Retire.{any_set, at_odds, contradicts, unsent_cack, up_to, unsent_bit, names_unsent, has_bit, named}
use Rattle.rules.specs.Retire.{retire, over_newly, settle, after_sack, report, acknowledged}
use Rattle.rules.specs.Marks.{mark, nacked, nearest, resent}
use Rattle.rules.specs.Sending as sending
use Rattle.rules.specs.Connection as connection
use Rattle.rules.specs.Table.{outside, taken_refusals, in_slot, on_refusals, on, emptied}
use Rattle.rules.specs.Kinds.{kind_of, fields_of, event_of, layouts, layout, width, event_width, widths, event_widths}
use Rattle.rules.specs.Paper.{code, paper, answered, read_line, written_line}
use Rattle.rules.specs.Log.{encode, read_left, read, high_cell, high_psn, write, written}
use Rattle.rules.specs.Refusals.{use_refusals, event_refusals, read_refusals, write_refusals}
use Rattle.rules.specs.Replay.{line, stop, then, replied, replay_from, replay}

unfoldable pub rules : Unit {0}
unfolding bit_at after distance room_ok size_ok flags_ok reason_ok
    lead slide pack any sum update
    unless first_of left within on_paper told number_of refusal
    number spell joined parted fields.encode fields.decode
    receiver.fresh receiver.start_refusals receiver.start receiver.judge receiver.known receiver.beyond receiver.verdict receiver.accept
    receiver.counted receiver.block_at receiver.block receiver.sack_of receiver.reason_of receiver.nack_of receiver.acked receiver.judged
    receiving.arrive_refusals receiving.arrive receiving.step
    sender.next sender.size_held sender.held sender.fresh sender.start_refusals sender.start sender.with_entries sender.sent sender.index
    sender.unsent
    any_set at_odds contradicts unsent_cack up_to unsent_bit names_unsent has_bit named retire over_newly settle after_sack report acknowledged
    mark nacked nearest resent
    sending.send_refusals sending.send sending.sack_refusals sending.sack sending.nack_refusals sending.nack
    sending.timer_refusals sending.timer sending.resend_refusals sending.resend
    sending.step_refusals sending.step
    connection.fresh connection.start_refusals connection.start connection.close_refusals connection.close connection.step
    outside taken_refusals in_slot on_refusals on emptied
    kind_of fields_of event_of layouts layout width event_width widths event_widths
    code paper answered read_line written_line
    encode read_left read high_cell high_psn write written
    use_refusals event_refusals read_refusals write_refusals
    line stop then replied replay_from replay
rules = tt
