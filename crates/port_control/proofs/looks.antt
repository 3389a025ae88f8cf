-- Looks at a port, and accesses that serve ports: what they tell, see, leave and heed.
pub mod Apart
pub mod Looking
pub mod Serving
pub mod Telling
pub mod Recording
pub mod Seeing
pub mod Stretching
pub mod Failing
pub mod Heeding
