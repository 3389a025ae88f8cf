mod FaultLemmas
mod FrameBits
mod LentBits
mod OwnerLemmas
mod OwnerNumbers
mod OwnerWords
mod Seen
