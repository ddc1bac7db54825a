use Rattle.std.proofs.Common.{refl}
use Rattle.drb_outside.specs.Calls.{peer}
use Rattle.drb_packet.specs.Texts.{ask_values}
use Rattle.drb_back.proofs.Causes.{none_in, one_in, bad_uri_of, called_uri, long_uri, memory_uri, short_not_long, text_of}
use Rattle.drb_back.proofs.Making.{called_out, replied_out}
use Rattle.drb_back.proofs.calling.call_back.Goals as goal

pub returns-in_default-clause-bad_uri : goal.returns-in_default-clause-bad_uri
returns-in_default-clause-bad_uri g c = (λ _. none_in c.args.to.now.uri.bytes c.as_slice.result.now c.as_slice.ensures c.in_default.ensures.every_uri, λ _. refl)

pub returns-in_default-clause-every_too_long : goal.returns-in_default-clause-every_too_long
returns-in_default-clause-every_too_long g c = λ named _. absurd (named (none_in c.args.to.now.uri.bytes c.as_slice.result.now c.as_slice.ensures c.in_default.ensures.every_uri))

pub returns-in-Ok-write_request-clause-calls : goal.returns-in-Ok-write_request-clause-calls
returns-in-Ok-write_request-clause-calls g c = called_out c.args.limits.now c.args.to.now c.args.name.now c.args.args.now (peer c.in-Ok.address.host.now c.in-Ok.address.port) c.deref.result.now c.call_at.result _ _ _ (one_in c.args.to.now.uri.bytes c.as_slice.result.now _ _ c.as_slice.ensures c.in-Ok.ensures.address) (text_of _ _ _ _ c.deref.ensures.value c.in-Ok-write_request.ensures.written c.new-text.ensures.items) c.call_at.ensures.called c.call_at.ensures.calls

pub returns-in-Ok-write_request-clause-bad_uri : goal.returns-in-Ok-write_request-clause-bad_uri
returns-in-Ok-write_request-clause-bad_uri g c = bad_uri_of c.args.to.now.uri.bytes _ _ c.call_at.result (one_in c.args.to.now.uri.bytes c.as_slice.result.now _ _ c.as_slice.ensures c.in-Ok.ensures.address) (called_uri c.call_at.result c.call_at.ensures.called)

pub returns-in-Ok-write_request-clause-every_too_long : goal.returns-in-Ok-write_request-clause-every_too_long
returns-in-Ok-write_request-clause-every_too_long g c = λ _ long. absurd (short_not_long (ask_values c.args.to.now.id c.args.name.now c.args.args.now) c.in-Ok-write_request.ensures.within long)

pub returns-in-Ok-write_request-clause-replied : goal.returns-in-Ok-write_request-clause-replied
returns-in-Ok-write_request-clause-replied g c = replied_out c.args.limits.now c.args.to.now c.args.name.now c.args.args.now c.call_at.result _ _ _ _ c.call_at.ensures.fault (called_out c.args.limits.now c.args.to.now c.args.name.now c.args.args.now (peer c.in-Ok.address.host.now c.in-Ok.address.port) c.deref.result.now c.call_at.result _ _ _ (one_in c.args.to.now.uri.bytes c.as_slice.result.now _ _ c.as_slice.ensures c.in-Ok.ensures.address) (text_of _ _ _ _ c.deref.ensures.value c.in-Ok-write_request.ensures.written c.new-text.ensures.items) c.call_at.ensures.called c.call_at.ensures.calls)

pub returns-in-Err-TooLong-clause-bad_uri : goal.returns-in-Err-TooLong-clause-bad_uri
returns-in-Err-TooLong-clause-bad_uri g c = bad_uri_of c.args.to.now.uri.bytes _ _ _ (one_in c.args.to.now.uri.bytes c.as_slice.result.now _ _ c.as_slice.ensures c.in-Ok.ensures.address) long_uri

pub returns-clause-bad_uri : goal.returns-clause-bad_uri
returns-clause-bad_uri g c = bad_uri_of c.args.to.now.uri.bytes _ _ _ (one_in c.args.to.now.uri.bytes c.as_slice.result.now _ _ c.as_slice.ensures c.in-Ok.ensures.address) memory_uri
