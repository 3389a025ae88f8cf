use Rattle.std.proofs.Common.{◌≡◌, inl, inr}
use Rattle.hba_regs.specs.declared.reg.PortReg.TheVariants.{Clb, Clbu, Cmd, Fb, Fbu, Sctl}
use Rattle.port_control.specs.Laws.RegisterSet.{Commanding, Placing, ResettingLink}
use Rattle.port_control.specs.Ports.{IsCmdOrBaseRegister}
use Rattle.port_control.proofs.laws.law_port_control_spares_other_ports.Goals as goal

no_control : IsCmdOrBaseRegister Sctl → ⊥
no_control (inl e) = absurd (let k : Sctl ≡ Cmd = e in cc)
no_control (inr (inl e)) = absurd (let k : Sctl ≡ Clb = e in cc)
no_control (inr (inr (inl e))) = absurd (let k : Sctl ≡ Clbu = e in cc)
no_control (inr (inr (inr (inl e)))) = absurd (let k : Sctl ≡ Fb = e in cc)
no_control (inr (inr (inr (inr e)))) = absurd (let k : Sctl ≡ Fbu = e in cc)

pub returns-clause-cmd_access_is_of_port : goal.returns-clause-cmd_access_is_of_port
returns-clause-cmd_access_is_of_port c = λ port access is.
    (c.law_prerequisites.ensures.control_spares_other_ports Commanding port access is, c.law_prerequisites.ensures.control_spares_other_registers Commanding port Sctl (λ e. absurd (let k : Sctl ≡ Cmd = e in cc)) access is)

pub returns-clause-placing : goal.returns-clause-placing
returns-clause-placing c = λ port access is. (c.law_prerequisites.ensures.control_spares_other_ports Placing port access is, c.law_prerequisites.ensures.control_spares_other_registers Placing port Sctl no_control access is)

pub returns-clause-resetting : goal.returns-clause-resetting
returns-clause-resetting c = c.law_prerequisites.ensures.control_spares_other_ports ResettingLink
