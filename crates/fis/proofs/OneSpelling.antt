-- Two lists of bytes that spell one value are one.
use Rattle.std.proofs.Common.{◌≡◌, ℕ, zero, suc, ◌+◌, ◌-◌, ◌<◌, ◌≤◌, inl, inr, List, length, slice_index, sym, ◌∙◌, arith}
use Rattle.std.proofs.lemmas.Bool.{cases_lt}
use Rattle.std.proofs.lemmas.Grind.{same_number_lists}
use Rattle.adapter.specs.Encoding.{AreZero, EncodesCommand}
use Rattle.adapter.specs.declared.command.Command.{Command}
use Rattle.fis.specs.declared.DeviceToHost.{DeviceToHost}
use Rattle.fis.specs.declared.PioSetup.{PioSetup}
use Rattle.fis.specs.declared.SetDeviceBits.{SetDeviceBits}
use Rattle.fis.specs.Encoding.{AreBytes, EncodesDeviceToHost, EncodesPioSetup, EncodesSetDeviceBits}

-- they agree at the first eight places
record AgreeFirst (a b : List ℕ) : Type 0 where
  pub at_0 : slice_index a 0 ≡ slice_index b 0
  pub at_1 : slice_index a 1 ≡ slice_index b 1
  pub at_2 : slice_index a 2 ≡ slice_index b 2
  pub at_3 : slice_index a 3 ≡ slice_index b 3
  pub at_4 : slice_index a 4 ≡ slice_index b 4
  pub at_5 : slice_index a 5 ≡ slice_index b 5
  pub at_6 : slice_index a 6 ≡ slice_index b 6
  pub at_7 : slice_index a 7 ≡ slice_index b 7

-- and at the next ten
record AgreeNext (a b : List ℕ) : Type 0 where
  pub at_8 : slice_index a 8 ≡ slice_index b 8
  pub at_9 : slice_index a 9 ≡ slice_index b 9
  pub at_10 : slice_index a 10 ≡ slice_index b 10
  pub at_11 : slice_index a 11 ≡ slice_index b 11
  pub at_12 : slice_index a 12 ≡ slice_index b 12
  pub at_13 : slice_index a 13 ≡ slice_index b 13
  pub at_14 : slice_index a 14 ≡ slice_index b 14
  pub at_15 : slice_index a 15 ≡ slice_index b 15
  pub at_16 : slice_index a 16 ≡ slice_index b 16
  pub at_17 : slice_index a 17 ≡ slice_index b 17

first : (a b : List ℕ) → AgreeFirst a b → (k : ℕ) → k < 8 → slice_index a k ≡ slice_index b k
first a b h zero lt = h.at_0
first a b h (suc zero) lt = h.at_1
first a b h (suc (suc zero)) lt = h.at_2
first a b h (suc (suc (suc zero))) lt = h.at_3
first a b h (suc (suc (suc (suc zero)))) lt = h.at_4
first a b h (suc (suc (suc (suc (suc zero))))) lt = h.at_5
first a b h (suc (suc (suc (suc (suc (suc zero)))))) lt = h.at_6
first a b h (suc (suc (suc (suc (suc (suc (suc zero))))))) lt = h.at_7
first a b h (suc (suc (suc (suc (suc (suc (suc (suc k)))))))) lt = absurd (omega arith)

next : (a b : List ℕ) → AgreeNext a b → (k : ℕ) → k < 10 → slice_index a (8 + k) ≡ slice_index b (8 + k)
next a b h zero lt = h.at_8
next a b h (suc zero) lt = h.at_9
next a b h (suc (suc zero)) lt = h.at_10
next a b h (suc (suc (suc zero))) lt = h.at_11
next a b h (suc (suc (suc (suc zero)))) lt = h.at_12
next a b h (suc (suc (suc (suc (suc zero))))) lt = h.at_13
next a b h (suc (suc (suc (suc (suc (suc zero)))))) lt = h.at_14
next a b h (suc (suc (suc (suc (suc (suc (suc zero))))))) lt = h.at_15
next a b h (suc (suc (suc (suc (suc (suc (suc (suc zero)))))))) lt = h.at_16
next a b h (suc (suc (suc (suc (suc (suc (suc (suc (suc zero))))))))) lt = h.at_17
next a b h (suc (suc (suc (suc (suc (suc (suc (suc (suc (suc k)))))))))) lt = absurd (omega arith)

eight : (a b : List ℕ) → length a ≡ 8 → length b ≡ 8 → AgreeFirst a b → a ≡ b
eight a b size size' h = same_number_lists a b (size ∙ sym size') (λ k lt. first a b h k (omega (arith, size)))

last : (a b : List ℕ) → AreZero a 18 20 → AreZero b 18 20 → (k : ℕ) → 18 ≤ k → k < 20 → slice_index a k ≡ slice_index b k
last a b z z' k low high = z k low high ∙ sym (z' k low high)

twenty : (a b : List ℕ) → length a ≡ 20 → length b ≡ 20 → AgreeFirst a b → AgreeNext a b → AreZero a 18 20 → AreZero b 18 20 → a ≡ b
twenty a b size size' h n z z' = same_number_lists a b (size ∙ sym size') (λ k lt.
    elim (cases_lt k 8) [
      | inl low ↦ first a b h k low
      | inr high ↦ elim (cases_lt k 18) [
        | inl low ↦ let place : 8 + (k - 8) ≡ k = omega arith in rw place at (next a b n (k - 8) (omega arith))
        | inr more ↦ last a b z z' k more (omega (arith, size))
      ]
    ])

pub command_is_one : (v : Command) (a b : List ℕ) → AreBytes a → AreBytes b → EncodesCommand a v → EncodesCommand b v → a ≡ b
command_is_one v a b p q s t = twenty a b s.size t.size
    (record {
      at_0 = s.fis_type ∙ sym t.fis_type;
      at_1 = s.c_bit ∙ sym t.c_bit;
      at_2 = s.code ∙ sym t.code;
      at_3 = omega (arith, s.features, t.features, p 3, q 3, p 11, q 11);
      at_4 = omega (arith, s.lba, t.lba, p 4, q 4, p 5, q 5, p 6, q 6, p 8, q 8, p 9, q 9, p 10, q 10);
      at_5 = omega (arith, s.lba, t.lba, p 4, q 4, p 5, q 5, p 6, q 6, p 8, q 8, p 9, q 9, p 10, q 10);
      at_6 = omega (arith, s.lba, t.lba, p 4, q 4, p 5, q 5, p 6, q 6, p 8, q 8, p 9, q 9, p 10, q 10);
      at_7 = s.device ∙ sym t.device;
    })
    (record {
      at_8 = omega (arith, s.lba, t.lba, p 4, q 4, p 5, q 5, p 6, q 6, p 8, q 8, p 9, q 9, p 10, q 10);
      at_9 = omega (arith, s.lba, t.lba, p 4, q 4, p 5, q 5, p 6, q 6, p 8, q 8, p 9, q 9, p 10, q 10);
      at_10 = omega (arith, s.lba, t.lba, p 4, q 4, p 5, q 5, p 6, q 6, p 8, q 8, p 9, q 9, p 10, q 10);
      at_11 = omega (arith, s.features, t.features, p 3, q 3, p 11, q 11);
      at_12 = omega (arith, s.count, t.count, p 12, q 12, p 13, q 13);
      at_13 = omega (arith, s.count, t.count, p 12, q 12, p 13, q 13);
      at_14 = s.zeros 14 (omega arith) (omega arith) ∙ sym (t.zeros 14 (omega arith) (omega arith));
      at_15 = s.zeros 15 (omega arith) (omega arith) ∙ sym (t.zeros 15 (omega arith) (omega arith));
      at_16 = s.zeros 16 (omega arith) (omega arith) ∙ sym (t.zeros 16 (omega arith) (omega arith));
      at_17 = s.zeros 17 (omega arith) (omega arith) ∙ sym (t.zeros 17 (omega arith) (omega arith));
    })
    (λ k low high. s.zeros k (omega arith) high) (λ k low high. t.zeros k (omega arith) high)

pub registers_are_one : (v : DeviceToHost) (a b : List ℕ) → AreBytes a → AreBytes b → EncodesDeviceToHost a v → EncodesDeviceToHost b v → a ≡ b
registers_are_one v a b p q s t = twenty a b s.size t.size
    (record {
      at_0 = s.fis_type ∙ sym t.fis_type;
      at_1 = s.i_bit ∙ sym t.i_bit;
      at_2 = s.status ∙ sym t.status;
      at_3 = s.error ∙ sym t.error;
      at_4 = omega (arith, s.lba, t.lba, p 4, q 4, p 5, q 5, p 6, q 6, p 8, q 8, p 9, q 9, p 10, q 10);
      at_5 = omega (arith, s.lba, t.lba, p 4, q 4, p 5, q 5, p 6, q 6, p 8, q 8, p 9, q 9, p 10, q 10);
      at_6 = omega (arith, s.lba, t.lba, p 4, q 4, p 5, q 5, p 6, q 6, p 8, q 8, p 9, q 9, p 10, q 10);
      at_7 = s.device ∙ sym t.device;
    })
    (record {
      at_8 = omega (arith, s.lba, t.lba, p 4, q 4, p 5, q 5, p 6, q 6, p 8, q 8, p 9, q 9, p 10, q 10);
      at_9 = omega (arith, s.lba, t.lba, p 4, q 4, p 5, q 5, p 6, q 6, p 8, q 8, p 9, q 9, p 10, q 10);
      at_10 = omega (arith, s.lba, t.lba, p 4, q 4, p 5, q 5, p 6, q 6, p 8, q 8, p 9, q 9, p 10, q 10);
      at_11 = s.byte_11_is_zero ∙ sym t.byte_11_is_zero;
      at_12 = omega (arith, s.count, t.count, p 12, q 12, p 13, q 13);
      at_13 = omega (arith, s.count, t.count, p 12, q 12, p 13, q 13);
      at_14 = s.rest_is_zero 14 (omega arith) (omega arith) ∙ sym (t.rest_is_zero 14 (omega arith) (omega arith));
      at_15 = s.rest_is_zero 15 (omega arith) (omega arith) ∙ sym (t.rest_is_zero 15 (omega arith) (omega arith));
      at_16 = s.rest_is_zero 16 (omega arith) (omega arith) ∙ sym (t.rest_is_zero 16 (omega arith) (omega arith));
      at_17 = s.rest_is_zero 17 (omega arith) (omega arith) ∙ sym (t.rest_is_zero 17 (omega arith) (omega arith));
    })
    (λ k low high. s.rest_is_zero k (omega arith) high) (λ k low high. t.rest_is_zero k (omega arith) high)

pub tags_are_one : (v : SetDeviceBits) (a b : List ℕ) → AreBytes a → AreBytes b → EncodesSetDeviceBits a v → EncodesSetDeviceBits b v → a ≡ b
tags_are_one v a b p q s t = eight a b s.size t.size (record {
  at_0 = s.fis_type ∙ sym t.fis_type;
  at_1 = s.i_bit ∙ sym t.i_bit;
  at_2 = s.status ∙ sym t.status;
  at_3 = s.error ∙ sym t.error;
  at_4 = omega (arith, s.tags, t.tags, p 4, q 4, p 5, q 5, p 6, q 6, p 7, q 7);
  at_5 = omega (arith, s.tags, t.tags, p 4, q 4, p 5, q 5, p 6, q 6, p 7, q 7);
  at_6 = omega (arith, s.tags, t.tags, p 4, q 4, p 5, q 5, p 6, q 6, p 7, q 7);
  at_7 = omega (arith, s.tags, t.tags, p 4, q 4, p 5, q 5, p 6, q 6, p 7, q 7);
})

pub setup_is_one : (v : PioSetup) (a b : List ℕ) → AreBytes a → AreBytes b → EncodesPioSetup a v → EncodesPioSetup b v → a ≡ b
setup_is_one v a b p q s t = twenty a b s.size t.size
    (record {
      at_0 = s.fis_type ∙ sym t.fis_type;
      at_1 = s.i_and_d_bits ∙ sym t.i_and_d_bits;
      at_2 = s.status ∙ sym t.status;
      at_3 = s.error ∙ sym t.error;
      at_4 = omega (arith, s.lba, t.lba, p 4, q 4, p 5, q 5, p 6, q 6, p 8, q 8, p 9, q 9, p 10, q 10);
      at_5 = omega (arith, s.lba, t.lba, p 4, q 4, p 5, q 5, p 6, q 6, p 8, q 8, p 9, q 9, p 10, q 10);
      at_6 = omega (arith, s.lba, t.lba, p 4, q 4, p 5, q 5, p 6, q 6, p 8, q 8, p 9, q 9, p 10, q 10);
      at_7 = s.device ∙ sym t.device;
    })
    (record {
      at_8 = omega (arith, s.lba, t.lba, p 4, q 4, p 5, q 5, p 6, q 6, p 8, q 8, p 9, q 9, p 10, q 10);
      at_9 = omega (arith, s.lba, t.lba, p 4, q 4, p 5, q 5, p 6, q 6, p 8, q 8, p 9, q 9, p 10, q 10);
      at_10 = omega (arith, s.lba, t.lba, p 4, q 4, p 5, q 5, p 6, q 6, p 8, q 8, p 9, q 9, p 10, q 10);
      at_11 = s.byte_11_is_zero ∙ sym t.byte_11_is_zero;
      at_12 = omega (arith, s.count, t.count, p 12, q 12, p 13, q 13);
      at_13 = omega (arith, s.count, t.count, p 12, q 12, p 13, q 13);
      at_14 = s.byte_14_is_zero ∙ sym t.byte_14_is_zero;
      at_15 = s.ending_status ∙ sym t.ending_status;
      at_16 = omega (arith, s.transfer_count, t.transfer_count, p 16, q 16, p 17, q 17);
      at_17 = omega (arith, s.transfer_count, t.transfer_count, p 16, q 16, p 17, q 17);
    })
    s.rest_is_zero t.rest_is_zero
