-- Devices and numbers that are written one after another, and UIDs that are put into a set one after another.
use Rattle.std.proofs.Common.{◌≡◌, ℕ, zero, suc, ◌<◌, ◌≤◌, List, [], ◌∷◌, length, take, map, get_or, refl, ap, arith}
use Rattle.rdm_wire.specs.declared.device.Device.{Device}
use Rattle.std.specs.Prelude.{None}
use Rattle.rdm_handles.specs.declared.forms.DeviceForC.{DeviceForC}
use Rattle.rdm_handles.specs.Forms.{form_of_device}

-- what stands beyond the end of a list of devices
abbrev pub blank : Device
blank = record { uid = 0; control = 0; binding = None }

-- the devices before i are written
abbrev pub Written : List DeviceForC → List Device → ℕ → Type 0
Written forms devices i =
    (k : ℕ) → k < i → get_or forms k (form_of_device blank) ≡ form_of_device (get_or devices k blank)

pub all_written : (forms : List DeviceForC) (devices : List Device) → length devices ≤ length forms
    → Written forms devices (length devices) → take (length devices) forms ≡ map form_of_device devices
all_written forms [] fit each = refl
all_written [] (d ∷ devices) fit each = absurd (omega (arith, fit))
all_written (f ∷ forms) (d ∷ devices) fit each =
    let first : f ≡ form_of_device d = each zero (omega arith) in
    rw first (ap (λ fs. form_of_device d ∷ fs)
    (all_written forms devices (omega (arith, fit)) (λ k lt. each (suc k) (omega (arith, lt)))))

-- the same for numbers
abbrev pub AreWritten : List ℕ → List ℕ → ℕ → Type 0
AreWritten written numbers i = (k : ℕ) → k < i → get_or written k 0 ≡ get_or numbers k 0

pub numbers_written : (written numbers : List ℕ) → length numbers ≤ length written
    → AreWritten written numbers (length numbers) → take (length numbers) written ≡ numbers
numbers_written written [] fit each = refl
numbers_written [] (n ∷ numbers) fit each = absurd (omega (arith, fit))
numbers_written (w ∷ written) (n ∷ numbers) fit each =
    let first : w ≡ n = each zero (omega arith) in
    rw first (ap (λ ns. n ∷ ns)
    (numbers_written written numbers (omega (arith, fit)) (λ k lt. each (suc k) (omega (arith, lt)))))
