use Rattle.std.proofs.Common.{◌≡◌, Some, sym, ap, ◌∙◌}
use Rattle.std.specs.Prelude.{option_map}
use Rattle.std.specs.Borrow.{Bor}
use Rattle.rdm_wire.specs.Uid.{with_uid}
use Rattle.rdm_wire.specs.Packet.{packet}
use Rattle.rdm_wire.specs.Responses.{fields_of}
use Rattle.rdm_line.specs.Scenes.{device_at}
use Rattle.rdm_line.specs.Sim.{SimState}
use Rattle.rdm_line.specs.contracts.sim.SimLine.{the_view}
use Rattle.rdm_line.specs.declared.scene.SceneDevice.{SceneDevice}
use Rattle.rdm_line.proofs.SoundLemmas.{IsDeviceAt, device_at_is, sound-muted, not_full, put_in}
use Rattle.rdm_line.proofs.sim.SimLine.mute.Goals as goal

pub insert-requires : goal.insert-requires
insert-requires c = (device_at_is c.args.exchange c.args.uid c.self.inside.scene.devices c.in-Some.device.now
    c.self.invariant.scene (sym c.present.ensures.value
    ∙ ap (option_map (λ (d : Bor SceneDevice). d.now)) c.in-Some.is)).own.own

at : (c : goal.After-encode_response)
    → IsDeviceAt c.args.exchange c.args.uid c.self.inside.scene.devices c.in-Some.device.now
at c = device_at_is c.args.exchange c.args.uid c.self.inside.scene.devices c.in-Some.device.now c.self.invariant.scene
    (sym c.present.ensures.value ∙ ap (option_map (λ (d : Bor SceneDevice). d.now)) c.in-Some.is)

muted : (c : goal.After-encode_response) → c.insert.new.self ≡ with_uid c.args.uid c.self.inside.muted
muted c = put_in c.args.uid c.self.inside.muted c.insert.new.self c.insert.result c.insert.ensures.inserted
    c.insert.ensures.full.0 (not_full c.args.uid c.args.exchange c.in-Some.device.now _ _ _ _ _ _ c.self.invariant
    (at c))

pub invariant_of-self : goal.invariant_of-self
invariant_of-self c =
    rw (muted c)
    (sound-muted c.args.uid c.args.exchange c.in-Some.device.now _ _ _ _ _ _ c.self.invariant (at c)
    (ap (λ (s : SimState). s.exchanges) c.self.view_is ∙ c.requires))

pub returns : goal.returns
returns c =
    let found : device_at c.args.exchange c.args.self.now.devices c.args.uid ≡ Some c.in-Some.device.now =
    ap (λ (s : SimState). device_at c.args.exchange s.devices c.args.uid) (sym c.self.view_is)
    ∙ sym c.present.ensures.value ∙ ap (option_map (λ (d : Bor SceneDevice). d.now)) c.in-Some.is in
    rw found (record {
      bytes = c.encode_response.ensures.frame ∙ ap (λ r. packet (fields_of r)) c.mute_response-response.ensures;
      mutes =
          ap (λ us. record (the_view c.self.inside) { muted = us }) (muted c) ∙ ap (λ (s : SimState). record s {
            muted = with_uid c.args.uid s.muted;
          }) c.self.view_is
          ∙ ap (λ u. record c.args.self.now { muted = with_uid u c.args.self.now.muted }) (sym (at c).uid);
    })
