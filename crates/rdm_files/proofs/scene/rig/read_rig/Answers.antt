use Rattle.std.proofs.Common.{sym, ap, ◌∙◌, not, codes}
use Rattle.std.specs.Prelude.{filter}
use Rattle.serde_json.specs.View.{view}
use Rattle.rdm_line.specs.Scenes.{uids_of_scene}
use Rattle.rdm_line.specs.declared.scene.SceneDevice.{SceneDevice}
use Rattle.rdm_files.specs.Forms.{IsListOf}
use Rattle.rdm_files.specs.RigFiles.{IsRigFile, stays}
use Rattle.rdm_files.specs.SceneFiles.{IsDeviceOf}
use Rattle.rdm_files.proofs.FormLemmas.{passed, by_default}
use Rattle.rdm_files.proofs.scene.rig.read_rig.Goals as goal

pub returns-in_err-listed : goal.returns-in_err-listed
returns-in_err-listed c =
    passed _ _ (IsRigFile (view c.args.value.now)) c.from_residual-in_err-listed.ensures.1
    (λ other rig h. c.in_err-listed.ensures other h.devices
    (by_default (codes "devices") (IsListOf SceneDevice IsDeviceOf 0 1024) _ _ (view c.args.value.now) h.devices
    (sym c.new.ensures) h.listed))

pub returns : goal.returns
returns c =
    let listed = c.in_ok-listed.listed in record {
      scene = c.in_ok-_scene._scene;
      is_scene = c.in_ok-_scene.ensures;
      devices = listed;
      listed = by_default (codes "devices") (IsListOf SceneDevice IsDeviceOf 0 1024) _ _ (view c.args.value.now) listed
          c.new.ensures c.in_ok-listed.ensures;
      staying = c.in-Ok.ensures
          ∙ ap (λ ds. uids_of_scene (filter stays ds)) (c.deref.ensures.value ∙ c.into_vec-devices.ensures);
      passing = c.in-Ok-passing.ensures
          ∙ ap (λ ds. uids_of_scene (filter (λ x. not (stays x)) ds))
          (c.deref-2.ensures.value ∙ c.into_vec-devices.ensures);
    }
